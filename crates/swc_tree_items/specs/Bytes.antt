-- The bytes of a text.
use Rattle.std.specs.Prelude.{ℕ, List, string_bytes}
use Rattle.swc_tree_items.specs.declared.text.Letters.{Letters}
use Rattle.swc_tree_items.specs.declared.text.Letters.TheVariants as letters

abbrev pub bytes_of : Letters → List ℕ
bytes_of (letters.Short short) = short
bytes_of (letters.Long string) = string_bytes string
