-- Each leaf of a tree stands in its text where its span says: names, keys, literals, texts of templates, and words alone.
use Rattle.std.specs.Prelude.{ℕ, ◌-◌, ◌==◌, nat_eq, nat_lt, Bool, false, not, ◌&&◌, List, [], ◌∷◌, length, take, drop, codes, bytes_eq, Option, Some, None, if◌then◌else◌}
use Rattle.std.specs.Cmp.Lexicographic.{pointwise}
use Rattle.swc_tree_marks.specs.declared.span.Span.{Span}
use Rattle.swc_tree_node.specs.declared.kind.Kind.TheVariants as kind
use Rattle.swc_tree_node.specs.declared.node.Node.{Node}
use Rattle.swc_tree_node.specs.declared.node.Node.TheOpen.{Node-F}
use Rattle.swc_tree_node.specs.Parts.{span_of, text_of}
use Rattle.swc_tree_grammar.specs.Forms.{holds}
use Rattle.swc_tree_grammar.specs.Levels.{is_absent}
use Rattle.swc_tree_grammar.specs.Shapes.{Str}
use Rattle.swc_tree_walk.specs.Nodes.{HasNode}
use Rattle.text_strings.specs.declared.escape.Reading.TheVariants as reading
use Rattle.text_values.specs.Values.{cooked, is_value, template_raw}

-- the bytes of a text at a span, which counts them from 1
abbrev pub bytes_at : List ℕ → Span → List ℕ
bytes_at text s = take (s.hi - s.lo) (drop (s.lo - 1) text)

-- there stands a name, maybe with escapes
abbrev pub name_stands : List ℕ → Span → List ℕ → Bool
name_stands text s a = nat_lt 0 s.lo && is_value (cooked reading.Quoted (bytes_at text s)) a

-- `#`, and the name behind it
abbrev pub is_private : List ℕ → List ℕ → Bool
is_private a (c ∷ cs) = c == 35 && is_value (cooked reading.Quoted cs) a
is_private a [] = false

abbrev pub private_name_stands : List ℕ → Span → List ℕ → Bool
private_name_stands text s a = nat_lt 0 s.lo && is_private a (bytes_at text s)

-- there stands what is written so
abbrev pub written_stands : List ℕ → Span → List ℕ → Bool
written_stands text s a = nat_lt 0 s.lo && pointwise nat_eq (bytes_at text s) a

abbrev pub is_there : (Span → List ℕ → Bool) → Option Span → Option (List ℕ) → Bool
is_there stands (Some s) (Some a) = stands s a
is_there stands _ _ = false

-- there stands a text of a template, as `raw` has it: line ends are line feeds (12.9.6)
abbrev pub template_stands : List ℕ → Span → List ℕ → Bool
template_stands text s a = nat_lt 0 s.lo && bytes_eq (template_raw (bytes_at text s)) a

abbrev pub begins : List ℕ → List ℕ → Bool
begins a bytes = pointwise nat_eq (take (length a) bytes) a

-- a slash, the pattern, a slash, and all that is left are the flags
abbrev pub is_regex : List ℕ → List ℕ → List ℕ → Bool
is_regex pattern flags bytes =
    begins (codes "/") bytes
    && (begins pattern (drop 1 bytes)
    && (begins (codes "/") (drop (length pattern) (drop 1 bytes)) && pointwise nat_eq (drop 1 (drop (length pattern) (drop 1 bytes))) flags))

abbrev pub regex_stands : List ℕ → Option Span → Option (List ℕ) → Option (List ℕ) → Bool
regex_stands text (Some s) (Some pattern) (Some flags) = nat_lt 0 s.lo && is_regex pattern flags (bytes_at text s)
regex_stands text _ _ _ = false

-- a word or a sign that is a leaf by itself
abbrev pub word_stands : List ℕ → List ℕ → Node → Bool
word_stands text a span = is_there (written_stands text) (span_of span) (Some a)

abbrev pub truth : Bool → List ℕ
truth b = if b then codes "true" else codes "false"

-- a leaf that is one word or sign, and does not stand where it says
abbrev pub is_misplaced_word : List ℕ → Node-F Node → Bool
is_misplaced_word text (Node-F.Tree kind.ThisExpr (span ∷ [])) = not (word_stands text (codes "this") span)
is_misplaced_word text (Node-F.Tree kind.Super (span ∷ [])) = not (word_stands text (codes "super") span)
is_misplaced_word text (Node-F.Tree kind.Import (span ∷ [])) = not (word_stands text (codes "import") span)
is_misplaced_word text (Node-F.Tree kind.Null (span ∷ [])) = not (word_stands text (codes "null") span)
is_misplaced_word text (Node-F.Tree kind.EmptyStmt (span ∷ [])) = not (word_stands text (codes ";") span)
is_misplaced_word text (Node-F.Tree kind.Bool (span ∷ value ∷ [])) = not (word_stands text (truth (holds value)) span)
is_misplaced_word text _ = false

-- a leaf that does not stand where it says
abbrev pub is_misplaced : List ℕ → Node-F Node → Bool
is_misplaced text (Node-F.Identifier k i) = not (name_stands text i.span i.sym)
is_misplaced text (Node-F.Tree kind.IdentName (span ∷ sym ∷ [])) = not (is_there (name_stands text) (span_of span) (text_of sym))
is_misplaced text (Node-F.Tree kind.PrivateName (span ∷ name ∷ [])) = not (is_there (private_name_stands text) (span_of span) (text_of name))
is_misplaced text (Node-F.Tree kind.Number (span ∷ a ∷ [])) = not (is_there (written_stands text) (span_of span) (text_of a))
is_misplaced text (Node-F.Tree kind.BigInt (span ∷ a ∷ [])) = not (is_there (written_stands text) (span_of span) (text_of a))
is_misplaced text (Str span value raw) = not (is_absent raw) && not (is_there (written_stands text) (span_of span) (text_of raw))
is_misplaced text (Node-F.Tree kind.Regex (span ∷ pattern ∷ flags ∷ [])) = not (regex_stands text (span_of span) (text_of pattern) (text_of flags))
is_misplaced text (Node-F.Tree kind.TplElement (span ∷ tail ∷ value ∷ raw ∷ [])) = not (is_there (template_stands text) (span_of span) (text_of raw))
is_misplaced text x = is_misplaced_word text x

-- no leaf stands elsewhere
abbrev pub LeavesStand : List ℕ → Node → Type 0
LeavesStand text t = HasNode (is_misplaced text) t → ⊥
