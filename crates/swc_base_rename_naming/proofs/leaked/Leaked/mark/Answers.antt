use Rattle.std.proofs.Common.{rules, ◌≡◌, ◌||◌, ◌==◌, ℕ, cond, Some, string_bytes, nat_cmp, subst, ap, ◌∙◌}
use Rattle.std.specs.BTreeMap.{get_by_text}
use Rattle.std.specs.BTreeSet.{contains}
use Rattle.std.specs.List.{list_any}
use Rattle.std.specs.Str.{bytes_eq}
use Rattle.std.proofs.lemmas.Map.Text.{btree_map_updates_text}
use Rattle.swc_base_rename_naming.specs.Chained.{ids_of}
use Rattle.swc_base_rename_naming.specs.Places.{AreMarkedAlso}
use Rattle.swc_base_rename_naming.specs.Stretches.{is_at}
use Rattle.swc_base_rename_naming.specs.declared.leaked.Leaked.{Leaked}
use Rattle.swc_base_rename_naming.proofs.Marks.{marked_also}
use Rattle.swc_base_rename_naming.proofs.leaked.Leaked.mark.Goals as goal

pub returns-in-Some-clause-marked : goal.returns-in-Some-clause-marked
returns-in-Some-clause-marked g c =
    let positions = g.A.Asked.positions c.args.asked.now in
    let was : Leaked = c.args.self.now in
    let new = c.add_all.new.places in
    let is : Leaked = record { holders = was.holders; places = c.get_mut.follows.lender new } in
    let word = c.as_str.result.now in
    let at : get_by_text was.places word ≡ Some c.in-Some.places.now = search rules in
    let added : (p : ℕ) → contains nat_cmp new p ≡ (list_any (is_at positions p) (ids_of was.holders word) || is_at positions p c.args.id)
    = λ p. c.in_ok-add_all.ensures p ∙ ap (λ b. b || list_any (λ q. q == p) c.positions.result.now) (c.requires word c.in-Some.places.now at p)
    ∙ ap (λ qs. list_any (is_at positions p) (ids_of was.holders word) || list_any (λ q. q == p) qs) c.positions.ensures in
    let sets = btree_map_updates_text word was.places is.places (Some new) ((c.get_mut.follows.holds new).3 (search rules)) in
    subst (λ text. AreMarkedAlso positions text c.args.id was is) c.as_str.ensures (marked_also positions was word c.args.id new added c.requires is sets)

pub returns-clause-marked : goal.returns-clause-marked
returns-clause-marked g c =
    let positions = g.A.Asked.positions c.args.asked.now in
    let was : Leaked = c.args.self.now in
    let new = c.add_all-2.new.places in
    let is : Leaked = record { holders = was.holders; places = c.insert.new.self } in
    let text = c.args.text.now in
    let added : (p : ℕ) → contains nat_cmp new p ≡ (list_any (is_at positions p) (ids_of was.holders text) || is_at positions p c.args.id)
    = λ p. c.in_ok-add_all-2.ensures p
    ∙ ap (λ b. b || list_any (λ q. q == p) c.positions-2.result.now) (c.in_ok-places.ensures p ∙ ap (λ t. list_any (is_at positions p) (ids_of was.holders t)) c.as_str-3.ensures)
    ∙ ap (λ qs. list_any (is_at positions p) (ids_of was.holders text) || list_any (λ q. q == p) qs) c.positions-2.ensures in
    let key = c.in_ok-key.key in
    let named : string_bytes key ≡ text = search rules in
    let mid = c.get_mut.follows.lender-at-none in
    let same : mid ≡ was.places = search rules in
    marked_also positions was text c.args.id new added c.requires is
    (λ x. btree_map_updates_text (string_bytes key) mid is.places (Some new) c.in_ok-insert.ensures.updates x
    ∙ ap (λ t. cond (bytes_eq t x) (Some new) (get_by_text mid x)) named
    ∙ ap (λ m. cond (bytes_eq text x) (Some new) (get_by_text m x)) same)
