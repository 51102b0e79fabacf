use Rattle.std.proofs.Common.{◌≡◌, ℕ, ◌+◌, ◌<◌, true, false, List, length, take, arith, rules, refl, sym, ap, ◌∙◌, subst}
use Rattle.std.specs.Option.{is_some}
use Rattle.std.proofs.lemmas.Option.{slice_get_read}
use Rattle.swc_tree_node.specs.declared.node.Node.{Identifier, List as Many, Tree, the_lemmas}
use Rattle.swc_tree_scoping.specs.Below.{place_of, places_of, scope_of_fields, view_of}
use Rattle.swc_tree_scoping.specs.Folds.{each_in}
use Rattle.swc_tree_scoping.specs.Scopes.{one_if, scope_count, total}
use Rattle.swc_base_resolver_program.specs.Lookup.{Open, layers}
use Rattle.swc_base_resolver_program.specs.Walks.{AreBelow, inside, sees, sees_in}
use Rattle.swc_base_resolver_program.proofs.Below.{below_more, pick_below}
use Rattle.swc_base_resolver_program.proofs.Gathered.{counted, known_list, known_tree, nameless}
use Rattle.swc_base_scope_checks.proofs.Asked.{all_taken}
use Rattle.swc_base_early_errors.specs.Claims.{ClaimsAt, ClaimsBelow, Walked}
use Rattle.swc_base_early_errors.proofs.Below.{claim_within, found, identifier_walked, leaf_walked, none_first, opened_walked, plain_walked, step}
use Rattle.swc_base_early_errors.proofs.Walked.{walked_after, walked_alike}
use Rattle.swc_base_early_errors.proofs.walk.+claim.Goals as goal

pub claim-clashes-requires : goal.claim-clashes-requires
claim-clashes-requires t c = λ d e. claim_within c.args.rule c.args.place (layers c.args.env.now) (length c.args.tables.now.items) d c.requires (sym c.claim.ensures ∙ e)

pub claim-claim_below-requires-in-Some : goal.claim-claim_below-requires-in-Some
claim-claim_below-requires-in-Some t c =
    let size : ℕ = length c.add_table.new.tables.items in
    let outside = below_more _ size (layers c.args.env.now) (omega (arith, c.in_ok-number-in-Some.ensures.size)) c.requires in
    let own : c.in_ok-number-in-Some.number < size = omega (arith, c.in_ok-number-in-Some.ensures.size, c.in_ok-number-in-Some.ensures.number) in
    (search (rules, the_lemmas), λ v. subst (AreBelow size) (sym (c.new-inside.ensures v)) (pick_below size _ _ _ outside (own, outside) (own, outside) v))

pub claim-returns-in_ok-clash-in-Identifier : goal.claim-returns-in_ok-clash-in-Identifier
claim-returns-in_ok-clash-in-Identifier t c =
    identifier_walked c.args.rule (layers c.args.env.now) (length c.args.tables.now.items) c.args.place c.args.node.now c.in-Identifier.field-0 c.get.result.now (c.in-Identifier.is ∙ ap (λ i. Identifier c.in-Identifier.field-0 i) (sym c.get.ensures))
    c.claim.result c.as_str-name.result.now c.claim.ensures c.as_str-name.ensures c.in_ok-clash-in-Identifier.clash c.args.tables.now.items c.clashes.new.tables.items c.in_ok-clash-in-Identifier.ensures

pub claim-returns-in_ok-clash-in-List : goal.claim-returns-in_ok-clash-in-List
claim-returns-in_ok-clash-in-List t c =
    let known = known_list c.args.place c.args.node.now c.as_slice-items.result.now c.places_of_items-places.result (c.in-List.is ∙ ap (λ ts. Many ts) (sym c.as_slice-items.ensures)) c.places_of_items-places.ensures in
    let all = counted c.args.place c.args.node.now c.as_slice-items.result.now c.places_of_items-places.result known in
    let none = ap (λ p. one_if (is_some (scope_of_fields p))) c.places_of_items-places.ensures in
    let same : total (each_in scope_count (places_of c.places_of_items-places.result c.as_slice-items.result.now) c.as_slice-items.result.now) ≡ scope_count c.args.place c.args.node.now = omega (arith, all, none) in
    plain_walked c.args.place c.args.node.now c.as_slice-items.result.now c.places_of_items-places.result known c.args.rule (layers c.args.env.now) (length c.args.tables.now.items)
    (sym (ap scope_of_fields c.places_of_items-places.ensures)) (λ _. layers c.args.env.now) (λ _. refl) c.in_ok-clash-in-List.clash c.args.tables.now.items c.claim_below.new.tables.items _ _ same c.in_ok-clash-in-List.ensures

pub claim-returns-in_ok-clash-in-None : goal.claim-returns-in_ok-clash-in-None
claim-returns-in_ok-clash-in-None t c =
    let known = known_tree c.args.place c.args.node.now c.as_slice-fields.result.now c.places_of_fields-places.result c.in-Tree.kind (c.in-Tree.is ∙ ap (λ ts. Tree c.in-Tree.kind ts) (sym c.as_slice-fields.ensures)) c.places_of_fields-places.ensures in
    let all = counted c.args.place c.args.node.now c.as_slice-fields.result.now c.places_of_fields-places.result known in
    let none = ap (λ o. one_if (is_some o)) c.in-None.ensures in
    let same : total (each_in scope_count (places_of c.places_of_fields-places.result c.as_slice-fields.result.now) c.as_slice-fields.result.now) ≡ scope_count c.args.place c.args.node.now = omega (arith, all, none) in
    plain_walked c.args.place c.args.node.now c.as_slice-fields.result.now c.places_of_fields-places.result known c.args.rule (layers c.args.env.now) (length c.args.tables.now.items)
    c.in-None.ensures (λ _. layers c.args.env.now) (λ _. refl) c.in_ok-clash-in-None.clash c.args.tables.now.items c.claim_below-in-None.new.tables.items _ _ same c.in_ok-clash-in-None.ensures

pub claim-returns-in_ok-clash-in-Some : goal.claim-returns-in_ok-clash-in-Some
claim-returns-in_ok-clash-in-Some t c =
    let known = known_tree c.args.place c.args.node.now c.as_slice-fields.result.now c.places_of_fields-places.result c.in-Tree.kind (c.in-Tree.is ∙ ap (λ ts. Tree c.in-Tree.kind ts) (sym c.as_slice-fields.ensures)) c.places_of_fields-places.ensures in
    let all = counted c.args.place c.args.node.now c.as_slice-fields.result.now c.places_of_fields-places.result known in
    let own = ap (λ o. one_if (is_some o)) c.in-Some.ensures in
    let same : scope_count c.args.place c.args.node.now ≡ 1 + total (each_in scope_count (places_of c.places_of_fields-places.result c.as_slice-fields.result.now) c.as_slice-fields.result.now) = omega (arith, all, own) in
    walked_after c.in_ok-clash-in-Some.clash c.args.tables.now.items c.add_table.new.tables.items c.claim_below-in-Some.new.tables.items
    (total (each_in scope_count (places_of c.places_of_fields-places.result c.as_slice-fields.result.now) c.as_slice-fields.result.now)) (scope_count c.args.place c.args.node.now)
    (ClaimsAt c.args.rule (layers c.args.env.now) (length c.args.tables.now.items) c.args.place c.args.node.now) c.in_ok-number-in-Some.ensures.size c.in_ok-number-in-Some.ensures.alike same
    (opened_walked c.args.place c.args.node.now c.as_slice-fields.result.now c.places_of_fields-places.result known c.args.rule (layers c.args.env.now) (length c.args.tables.now.items)
    c.in-Some.scope (sees_in c.new-inside.result) (length c.add_table.new.tables.items) c.in-Some.ensures (λ v. c.new-inside.ensures v ∙ ap (λ n. inside c.in-Some.scope n (layers c.args.env.now) v) c.in_ok-number-in-Some.ensures.number)
    c.in_ok-number-in-Some.ensures.size c.in_ok-clash-in-Some.clash c.add_table.new.tables.items c.claim_below-in-Some.new.tables.items _ c.in_ok-clash-in-Some.ensures)

pub claim-returns-in_default : goal.claim-returns-in_default
claim-returns-in_default t c =
    leaf_walked c.args.rule (layers c.args.env.now) (length c.args.tables.now.items) c.args.place c.args.node.now c.args.tables.now.items (nameless c.args.node.now c.in_default.not-List c.in_default.not-Identifier c.in_default.not-Tree)

pub claim_below-claim-requires : goal.claim_below-claim-requires
claim_below-claim-requires t c =
    (search (rules, the_lemmas), subst (λ env. AreBelow (length c.loop-i.tables.items) env) (sym c.seen-env.ensures) (below_more _ _ _ (let size = c.loop-i.invariant.walked.0 in omega (arith, size)) (c.requires c.view.result)))

pub claim_below-loop-i-init : goal.claim_below-loop-i-init
claim_below-loop-i-init t c = record {
  walked = none_first c.args.rule (λ i. sees c.args.views (view_of c.args.places i)) (length c.args.tables.now.items) (places_of c.args.places c.args.nodes.now) c.args.nodes.now c.args.tables.now.items;
}

pub claim_below-loop-i-preserved : goal.claim_below-loop-i-preserved
claim_below-loop-i-preserved t c =
    let here = slice_get_read c.args.nodes.now _ c.loop-i.i c.index-nodes-i.result refl (omega arith) c.index-nodes-i.is in
    let stood = c.at.ensures ∙ ap (place_of c.args.places c.loop-i.i) (sym here) in
    let envs : ℕ → List Open = λ i. sees c.args.views (view_of c.args.places i) in
    let env_is = c.seen-env.ensures ∙ ap (sees c.args.views) c.view.ensures in
    record {
      walked = step c.args.rule envs (length c.args.tables.now.items) (places_of c.args.places c.args.nodes.now) c.args.nodes.now c.loop-i.i c.index-nodes-i.result here
          (layers c.seen-env.result.now) (length c.loop-i.tables.items) c.at.result env_is c.loop-i.invariant.walked.0 stood false c.args.tables.now.items c.loop-i.tables.items c.claim.new.tables.items c.loop-i.invariant.walked
          (subst (λ b. Walked b c.loop-i.tables.items c.claim.new.tables.items (scope_count c.at.result c.index-nodes-i.result) (ClaimsAt c.args.rule (layers c.seen-env.result.now) (length c.loop-i.tables.items) c.at.result c.index-nodes-i.result)) c.if-clash.false c.in_ok-clash.ensures);
    }

pub claim_below-loop-i-preserved-then-not-may_hold_names : goal.claim_below-loop-i-preserved-then-not-may_hold_names
claim_below-loop-i-preserved-then-not-may_hold_names t c =
    let item = c.index-nodes-i.result in
    let here = slice_get_read c.args.nodes.now _ c.loop-i.i item refl (omega arith) c.index-nodes-i.is in
    let told = sym c.may_hold_names.ensures ∙ c.if-not-may_hold_names.true in
    let place = places_of c.args.places c.args.nodes.now c.loop-i.i in
    let envs : ℕ → List Open = λ i. sees c.args.views (view_of c.args.places i) in
    record {
      walked = step c.args.rule envs (length c.args.tables.now.items) (places_of c.args.places c.args.nodes.now) c.args.nodes.now c.loop-i.i item here
          (envs c.loop-i.i) (length c.loop-i.tables.items) place refl c.loop-i.invariant.walked.0 refl false c.args.tables.now.items c.loop-i.tables.items c.loop-i.tables.items c.loop-i.invariant.walked
          (leaf_walked c.args.rule (envs c.loop-i.i) (length c.loop-i.tables.items) place item c.loop-i.tables.items told);
    }

pub claim_below-returns-then-clash : goal.claim_below-returns-then-clash
claim_below-returns-then-clash t c =
    let here = slice_get_read c.args.nodes.now _ c.loop-i.i c.index-nodes-i.result refl (omega arith) c.index-nodes-i.is in
    let stood = c.at.ensures ∙ ap (place_of c.args.places c.loop-i.i) (sym here) in
    let envs : ℕ → List Open = λ i. sees c.args.views (view_of c.args.places i) in
    let env_is = c.seen-env.ensures ∙ ap (sees c.args.views) c.view.ensures in
    found c.args.rule envs (length c.args.tables.now.items) (places_of c.args.places c.args.nodes.now) c.args.nodes.now c.loop-i.i c.index-nodes-i.result here
    (layers c.seen-env.result.now) (length c.loop-i.tables.items) c.at.result env_is c.loop-i.invariant.walked.0 stood c.args.tables.now.items c.loop-i.tables.items c.claim.new.tables.items (total (each_in scope_count (places_of c.args.places c.args.nodes.now) c.args.nodes.now)) (omega arith) c.loop-i.invariant.walked
    (subst (λ b. Walked b c.loop-i.tables.items c.claim.new.tables.items (scope_count c.at.result c.index-nodes-i.result) (ClaimsAt c.args.rule (layers c.seen-env.result.now) (length c.loop-i.tables.items) c.at.result c.index-nodes-i.result)) c.if-clash.true c.in_ok-clash.ensures)

pub claim_below-returns : goal.claim_below-returns
claim_below-returns t c =
    let envs : ℕ → List Open = λ i. sees c.args.views (view_of c.args.places i) in
    let ended : c.loop-i.i ≡ length c.args.nodes.now = omega arith in
    let count = ap (λ m. total (each_in scope_count (places_of c.args.places c.args.nodes.now) (take m c.args.nodes.now))) ended ∙ ap (λ us. total (each_in scope_count (places_of c.args.places c.args.nodes.now) us)) (all_taken c.args.nodes.now) in
    walked_alike false c.args.tables.now.items c.loop-i.tables.items (total (each_in scope_count (places_of c.args.places c.args.nodes.now) (take c.loop-i.i c.args.nodes.now))) (total (each_in scope_count (places_of c.args.places c.args.nodes.now) c.args.nodes.now))
    (ClaimsBelow c.args.rule envs (length c.args.tables.now.items) (places_of c.args.places c.args.nodes.now) c.args.nodes.now (length c.args.nodes.now))
    (ClaimsBelow c.args.rule envs (length c.args.tables.now.items) (places_of c.args.places c.args.nodes.now) c.args.nodes.now (length c.args.nodes.now)) count (λ p d x. (λ h. h, λ h. h))
    (subst (λ m. Walked false c.args.tables.now.items c.loop-i.tables.items (total (each_in scope_count (places_of c.args.places c.args.nodes.now) (take c.loop-i.i c.args.nodes.now)))
    (ClaimsBelow c.args.rule envs (length c.args.tables.now.items) (places_of c.args.places c.args.nodes.now) c.args.nodes.now m)) ended c.loop-i.invariant.walked)
