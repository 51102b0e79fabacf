-- Each leaf of a tree can be written as one token of its kind, and no name that is bound or referred to is a reserved word
-- (ECMA-262, 12 and 13.1).
use Rattle.std.specs.Prelude.{ℕ, List, [], ◌∷◌, Bool, true, false, not, ◌&&◌, ◌||◌, Option, Some, None}
use Rattle.std.specs.List.{list_any}
use Rattle.swc_tree_node.specs.declared.kind.Kind.TheVariants as kind
use Rattle.swc_tree_node.specs.declared.node.Node.{Node, out-Node}
use Rattle.swc_tree_node.specs.declared.node.Node.TheOpen.{Node-F}
use Rattle.swc_tree_node.specs.Parts.{text_of}
use Rattle.swc_tree_grammar.specs.Levels.{is_absent}
use Rattle.swc_tree_grammar.specs.Shapes.{Module, Script, Str, TaggedTpl, Tpl, items_of}
use Rattle.swc_tree_walk.specs.Nodes.{HasNode}
use Rattle.text_words.specs.Words.{is_big_integer, is_hashbang, is_name, is_number, is_regex, is_reserved, is_string, is_template}

-- ---- leaves

-- what stands in a field is no text that passes
abbrev pub fails : (List ℕ → Bool) → Option (List ℕ) → Bool
fails p (Some text) = not (p text)
fails p None = true

-- what stands in a field is nothing, or a text that passes
abbrev pub fails_there : (List ℕ → Bool) → Node → Bool
fails_there p t = not (is_absent t) && fails p (text_of t)

-- how a string is written is no string of its value, where that is said
abbrev pub is_bad_raw : Option (List ℕ) → Node → Bool
is_bad_raw (Some value) raw = fails_there (is_string value) raw
is_bad_raw None raw = true

abbrev pub is_bad_string : Node → Node → Bool
is_bad_string value raw = is_bad_raw (text_of value) raw

abbrev pub are_bad_flags : Option (List ℕ) → Node → Bool
are_bad_flags (Some pattern) flags = fails (is_regex pattern) (text_of flags)
are_bad_flags None flags = true

abbrev pub is_bad_regex : Node → Node → Bool
is_bad_regex pattern flags = are_bad_flags (text_of pattern) flags

abbrev pub is_bad_template : Node → Node → Bool
is_bad_template cooked raw = fails (is_template (text_of cooked)) (text_of raw)

-- a leaf that is no token of its kind, or one that is written otherwise than it says
abbrev pub is_bad_leaf : Node-F Node → Bool
is_bad_leaf (Node-F.Identifier k i) = not (is_name i.sym)
is_bad_leaf (Node-F.Tree kind.IdentName (span ∷ sym ∷ [])) = fails is_name (text_of sym)
is_bad_leaf (Node-F.Tree kind.PrivateName (span ∷ name ∷ [])) = fails is_name (text_of name)
is_bad_leaf (Node-F.Tree kind.Number (span ∷ text ∷ [])) = fails is_number (text_of text)
is_bad_leaf (Node-F.Tree kind.BigInt (span ∷ text ∷ [])) = fails is_big_integer (text_of text)
is_bad_leaf (Str span value raw) = is_bad_string value raw
is_bad_leaf (Node-F.Tree kind.Regex (span ∷ pattern ∷ flags ∷ [])) = is_bad_regex pattern flags
is_bad_leaf (Node-F.Tree kind.TplElement (span ∷ tail ∷ cooked ∷ raw ∷ [])) = is_bad_template cooked raw
is_bad_leaf (Module span body shebang) = fails_there is_hashbang shebang
is_bad_leaf (Script span body shebang) = fails_there is_hashbang shebang
is_bad_leaf _ = false

-- ---- names, and templates without a tag

abbrev pub is_reserved_name : Node-F Node → Bool
is_reserved_name (Node-F.Identifier k i) = is_reserved i.sym
is_reserved_name _ = false

abbrev pub has_no_value : Node-F Node → Bool
has_no_value (Node-F.Tree kind.TplElement (span ∷ tail ∷ cooked ∷ raw ∷ [])) = is_absent cooked
has_no_value _ = false

-- a template one of whose texts has no value, which only a tag may take (13.2.8.1)
abbrev pub is_valueless : Node-F Node → Bool
is_valueless (Tpl span exprs quasis) = list_any (λ t. has_no_value (out-Node t)) (items_of quasis)
is_valueless _ = false

-- a child that can't stand where names are bound or referred to, and where expressions stand
abbrev pub is_amiss : Node → Bool
is_amiss t = is_reserved_name (out-Node t) || is_valueless (out-Node t)

abbrev pub is_amiss_specifier : Node-F Node → Bool
is_amiss_specifier (Node-F.Tree kind.ExportNamedSpecifier (span ∷ orig ∷ exported ∷ [])) = is_amiss orig
is_amiss_specifier _ = false

-- an export list without a source that has one
abbrev pub is_amiss_export : Node → Node → Bool
is_amiss_export specifiers src = is_absent src && list_any (λ t. is_amiss_specifier (out-Node t)) (items_of specifiers)

-- a node with such a child; what is imported or exported under a name may have any name, and so may what another module exports
abbrev pub has_amiss : Node-F Node → Bool
has_amiss (Node-F.Tree kind.ImportNamedSpecifier (span ∷ local ∷ imported ∷ [])) = is_amiss local
has_amiss (Node-F.Tree kind.ExportNamedSpecifier ts) = false
has_amiss (Node-F.Tree kind.ExportNamespaceSpecifier ts) = false
has_amiss (Node-F.Tree kind.NamedExport (span ∷ specifiers ∷ src ∷ attributes ∷ [])) = is_amiss_export specifiers src
has_amiss (TaggedTpl span tag tpl) = is_amiss tag
has_amiss (Node-F.Tree k ts) = list_any is_amiss ts
has_amiss (Node-F.List ts) = list_any is_amiss ts
has_amiss _ = false

-- ---- each node

abbrev pub is_misspelled : Node-F Node → Bool
is_misspelled x = is_bad_leaf x || has_amiss x

-- each leaf is a token of its kind, and each name one that may stand there
abbrev pub Spelled : Node → Type 0
Spelled t = HasNode is_misspelled t → ⊥
