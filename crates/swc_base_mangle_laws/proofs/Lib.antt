mod Mangled
