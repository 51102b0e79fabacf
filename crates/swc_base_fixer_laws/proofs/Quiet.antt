-- Places in which no expression stands, nor below them, whatever fits there.
use Rattle.std.proofs.Common.{◌≡◌, ℕ, Bool, true, not, ◌&&◌, ◌==◌, Some, List, [], ◌∷◌, refl, sym, ap, ◌∙◌, true≢false}
use Rattle.std.specs.List.{list_any, list_all}
use Rattle.swc_tree_node.specs.declared.kind.Kind.{Kind}
use Rattle.swc_tree_node.specs.declared.kind.Kind.TheVariants as kind
use Rattle.swc_tree_node.specs.declared.kind.Class.{Class}
use Rattle.swc_tree_node.specs.declared.slot.Content.{Content}
use Rattle.swc_tree_node.specs.declared.slot.Content.TheVariants as content
use Rattle.swc_tree_node.specs.declared.slot.Slot.{Slot}
use Rattle.swc_tree_node.specs.declared.slot.Slot.TheVariants as slot
use Rattle.swc_tree_node.specs.declared.node.Node.{Node, List as Many, Tree}
use Rattle.swc_tree_node.specs.Table.{slots_of, kinds_of, kind_number, is_identifier}
use Rattle.swc_tree_node.specs.Fits.{Fits, FieldsFit, AllFit, single}
use Rattle.swc_tree_node.proofs.Fit.{fits-List}
use Rattle.swc_tree_grammar.proofs.Induction.{Each, Leaves, by_children}
use Rattle.swc_tree_grammar.proofs.Places.{among, stands}
use Rattle.swc_tree_grammar_laws.proofs.Levelled.{half, also}
use Rattle.swc_base_fixer_laws.specs.Sets.{item}
use Rattle.swc_base_fixer_laws.proofs.SetsRows.{items_open}

-- names, strings, texts of templates, and what imports and exports name
abbrev pub quiet_kinds : List Kind
quiet_kinds = kind.Ident ∷ kind.BindingIdent ∷ kind.Str ∷ kind.Super ∷ kind.TplElement ∷ kind.PrivateName ∷ kind.ExportNamespaceSpecifier ∷ kind.ExportNamedSpecifier ∷ []

abbrev pub is_quiet_number : ℕ → Bool
is_quiet_number n = list_any (λ x. n == kind_number x) quiet_kinds

-- those of them that have fields
abbrev pub is_quiet_kind : Kind → Bool
is_quiet_kind k = is_quiet_number (kind_number k) && not (is_identifier k)

abbrev pub is_quiet_content : Content → Bool
is_quiet_content (content.Node c) = list_all (λ k. is_quiet_number (kind_number k)) (kinds_of c)
is_quiet_content _ = true

abbrev pub is_quiet : Slot → Bool
is_quiet (slot.One c) = is_quiet_content c
is_quiet (slot.Optional c) = is_quiet_content c
is_quiet (slot.List c) = is_quiet_content c
is_quiet (slot.Holes c) = is_quiet_content c
is_quiet (slot.OptionalList c) = is_quiet_content c
is_quiet _ = true

-- the fields of a quiet kind are quiet too
pub quiet_slots : (k : Kind) → is_quiet_kind k ≡ true → list_all is_quiet (slots_of k) ≡ true
quiet_slots kind.Ident q = absurd (true≢false (sym q))
quiet_slots kind.BindingIdent q = absurd (true≢false (sym q))
quiet_slots kind.Str q = refl
quiet_slots kind.Super q = refl
quiet_slots kind.TplElement q = refl
quiet_slots kind.PrivateName q = refl
quiet_slots kind.ExportNamespaceSpecifier q = refl
quiet_slots kind.ExportNamedSpecifier q = refl
quiet_slots k q = absurd (true≢false (sym q))

quiet_class : (s : Slot) (c : Class) → single s ≡ Some (content.Node c) → is_quiet s ≡ true → is_quiet_content (content.Node c) ≡ true
quiet_class (slot.One (content.Node d)) c e q = let x : d ≡ c = cc in ap (λ c. is_quiet_content (content.Node c)) (sym x) ∙ q
quiet_class (slot.One d) c e q = absurd (cc)
quiet_class (slot.Optional (content.Node d)) c e q = let x : d ≡ c = cc in ap (λ c. is_quiet_content (content.Node c)) (sym x) ∙ q
quiet_class (slot.Optional d) c e q = absurd (cc)
quiet_class s c e q = absurd (cc)

quiet_item : (s : Slot) → is_quiet s ≡ true → is_quiet (item s) ≡ true
quiet_item (slot.List c) q = q
quiet_item (slot.OptionalList c) q = q
quiet_item (slot.Holes c) q = q
quiet_item s q = refl

pub items_fit : (s : Slot) (ts : List Node) → Fits (Many ts) s → AllFit (item s) ts
items_fit s ts f = items_open s ts (sym (fits-List ts s) ∙ f)

-- what holds in each quiet place
module _ (P : Node → Type 0) where
  abbrev pub Quiet : Node → Type 0
  Quiet t = (s : Slot) → is_quiet s ≡ true → Fits t s → P t

  quiet_items : (s : Slot) (ts : List Node) → Each Quiet ts → is_quiet s ≡ true → AllFit s ts → Each P ts
  quiet_items s [] l q f = tt
  quiet_items s (t ∷ ts) l q f = (l.0 s q f.0, quiet_items s ts l.1 q f.1)

  quiet_each : (ss : List Slot) (ts : List Node) → Each Quiet ts → list_all is_quiet ss ≡ true → FieldsFit ss ts → Each P ts
  quiet_each [] [] l q f = tt
  quiet_each [] (t ∷ ts) l q f = absurd f
  quiet_each (s ∷ ss) [] l q f = absurd f
  quiet_each (s ∷ ss) (t ∷ ts) l q f = let p = half q in (l.0 s p.0 f.0, quiet_each ss ts l.1 p.1 f.1)

  quiet_tree : ((k : Kind) (ts : List Node) → is_quiet_kind k ≡ true → Each P ts → P (Tree k ts)) → (k : Kind) (ts : List Node) → Each Quiet ts → Quiet (Tree k ts)
  quiet_tree tree k ts l s q f =
      let w = stands k ts s f in
      let x = also (among is_quiet_number (kind_number k) (kinds_of w.in_class) w.belonging (quiet_class s w.in_class w.place q)) w.no_identifier in
      tree k ts x (quiet_each (slots_of k) ts l (quiet_slots k x) w.fields)

  -- ... since it holds of each leaf, of a list if it holds of the items, and of a node of a quiet kind if it holds of the fields
  pub quiet : Leaves P → ((ts : List Node) → Each P ts → P (Many ts)) → ((k : Kind) (ts : List Node) → is_quiet_kind k ≡ true → Each P ts → P (Tree k ts)) → (t : Node) → Quiet t
  quiet l many tree t = by_children Quiet
      (λ s q f. l.0, λ x s q f. l.1 x, λ w s q f. l.2 w, λ x s q f. l.3 x, λ r s q f. l.4 r, λ k i s q f. l.5 k i)
      (λ ts m s q f. many ts (quiet_items (item s) ts m (quiet_item s q) (items_fit s ts f)))
      (quiet_tree tree) t

  all_quiet : ((t : Node) → Quiet t) → (ts : List Node) → Each Quiet ts
  all_quiet h [] = tt
  all_quiet h (t ∷ ts) = (h t, all_quiet h ts)

  -- ... and of each of some fields
  pub quiet_fields : ((t : Node) → Quiet t) → (ss : List Slot) (ts : List Node) → list_all is_quiet ss ≡ true → FieldsFit ss ts → Each P ts
  quiet_fields h ss ts q f = quiet_each ss ts (all_quiet h ts) q f
