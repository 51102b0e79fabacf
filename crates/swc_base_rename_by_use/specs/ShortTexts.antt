-- The short texts, in order: by their lengths, and among those of one length by the alphabet.
use Rattle.std.specs.Prelude.{ℕ, zero, suc, ◌+◌, ◌-◌, ◌*◌, ◌/◌, ◌%◌, nat_le, nat_lt, ◌==◌, ◌&&◌, List, [], ◌∷◌, ◌++◌, codes, map, if◌then◌else◌}

-- the characters by their places: `a` to `z`, `A` to `Z`, `$`, `_`, with which a text begins, and then the digits
abbrev pub character : ℕ → ℕ
character k = if nat_lt k 26 then 97 + k else if nat_lt k 52 then 39 + k else if k == 52 then 36 else if k == 53 then 95 else k - 6

-- the place of a character among these
abbrev pub rank : ℕ → ℕ
rank c = if nat_le 97 c then c - 97 else if c == 95 then 53 else if nat_le 65 c then c - 39 else if c == 36 then 52 else c + 6

-- the place of a longer text, by that of its beginning
abbrev pub place_from : ℕ → List ℕ → ℕ
place_from p [] = p
place_from p (c ∷ cs) = place_from (54 + (64 * p + rank c)) cs

-- the place of a text in the list of all texts over these characters that begin with no digit: those of one character, of two, and so on
abbrev pub place : List ℕ → ℕ
place [] = 0
place (c ∷ cs) = place_from (rank c) cs

-- the text at a place, if it has at most so many characters: one of the first 54, or the text of its beginning with one of the 64 behind
abbrev pub text_at_place : ℕ → ℕ → List ℕ
text_at_place zero p = []
text_at_place (suc most) p = if nat_lt p 54 then character p ∷ [] else text_at_place most ((p - 54) / 64) ++ character ((p - 54) % 64) ∷ []

-- the texts that are given to no id, by their places: the reserved words, `eval` and `arguments`, and three names of the global object
abbrev pub withheld : List (List ℕ)
withheld = codes "do" ∷ codes "if" ∷ codes "in" ∷ codes "for" ∷ codes "let" ∷ codes "new" ∷ codes "try" ∷ codes "var" ∷ codes "NaN" ∷ codes "case"
    ∷ codes "else" ∷ codes "enum" ∷ codes "eval" ∷ codes "null" ∷ codes "this" ∷ codes "true" ∷ codes "void" ∷ codes "with" ∷ codes "await"
    ∷ codes "break" ∷ codes "catch" ∷ codes "class" ∷ codes "const" ∷ codes "false" ∷ codes "super" ∷ codes "throw" ∷ codes "while" ∷ codes "yield"
    ∷ codes "delete" ∷ codes "export" ∷ codes "import" ∷ codes "public" ∷ codes "return" ∷ codes "static" ∷ codes "switch" ∷ codes "typeof"
    ∷ codes "default" ∷ codes "extends" ∷ codes "finally" ∷ codes "package" ∷ codes "private" ∷ codes "continue" ∷ codes "debugger" ∷ codes "function"
    ∷ codes "Infinity" ∷ codes "arguments" ∷ codes "interface" ∷ codes "protected" ∷ codes "undefined" ∷ codes "implements" ∷ codes "instanceof" ∷ []

-- the place that is left at a place, once these are taken out, which rise: one further for each of them that lies before
abbrev pub past : List ℕ → ℕ → ℕ
past [] p = p
past (q ∷ qs) p = if nat_le q p then past qs (p + 1) else p

-- how many of some places lie before another
abbrev pub before : List ℕ → ℕ → ℕ
before [] p = 0
before (q ∷ qs) p = if nat_lt q p then suc (before qs p) else before qs p

-- the text of a counter: that of its place in the list of all without those that are withheld; no counter below 2^64 leads to one of more than
-- eleven characters
abbrev pub short_text : ℕ → List ℕ
short_text n = text_at_place 11 (past (map place withheld) n)
