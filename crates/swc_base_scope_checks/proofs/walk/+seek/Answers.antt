use Rattle.std.proofs.Common.{◌≡◌, length, take, arith, rules, refl, sym, ap, ◌∙◌, subst}
use Rattle.std.specs.Option.{is_some}
use Rattle.std.proofs.lemmas.Option.{slice_get_read}
use Rattle.swc_tree_node.specs.declared.node.Node.{Identifier, List as Many, Tree, the_lemmas}
use Rattle.swc_tree_scoping.specs.Folds.{each_in}
use Rattle.swc_tree_scoping.specs.Below.{place_of, places_of, scope_of_fields, view_of}
use Rattle.swc_tree_scoping.specs.Scopes.{one_if, scope_count, total}
use Rattle.swc_base_resolver_program.specs.Lookup.{layers}
use Rattle.swc_base_resolver_program.specs.Walks.{sees, sees_in}
use Rattle.swc_base_resolver_program.proofs.Counted.{total_next, total_part}
use Rattle.swc_base_resolver_program.proofs.Gathered.{counted, known_list, known_tree, leaf_counts_none, nameless}
use Rattle.swc_base_scope_checks.specs.Asked.{PassesBelow, listed_at}
use Rattle.swc_base_scope_checks.proofs.Asked.{all_taken, by_itself, found_below, in_turn, leaf_none, listed_fields, listed_items, none_below, none_in_leaf, opened_passes, plain_passes, still_none, swapped}
use Rattle.swc_base_scope_checks.proofs.walk.+seek.Goals as goal

pub seek-seek_below-requires : goal.seek-seek_below-requires
seek-seek_below-requires g t c κs within =
    let known = known_list c.args.place c.args.node.now c.as_slice-items.result.now c.places_of_items-places.result (c.in-List.is ∙ ap (λ ts. Many ts) (sym c.as_slice-items.ensures)) c.places_of_items-places.ensures in
    let all = counted c.args.place c.args.node.now c.as_slice-items.result.now c.places_of_items-places.result known in
    (search (rules, the_lemmas), (search rules, omega (arith, all, c.requires)))

pub seek-seek_below-requires-in-Some : goal.seek-seek_below-requires-in-Some
seek-seek_below-requires-in-Some g t c κs within =
    let known = known_tree c.args.place c.args.node.now c.as_slice-fields.result.now c.places_of_fields-places.result c.in-Tree.kind (c.in-Tree.is ∙ ap (λ ts. Tree c.in-Tree.kind ts) (sym c.as_slice-fields.ensures)) c.places_of_fields-places.ensures in
    let all = counted c.args.place c.args.node.now c.as_slice-fields.result.now c.places_of_fields-places.result known in
    let own = ap (λ o. one_if (is_some o)) c.in-Some.ensures in
    (search (rules, the_lemmas), (search rules, omega (arith, all, own, c.requires)))

pub seek-seek_below-requires-in-None : goal.seek-seek_below-requires-in-None
seek-seek_below-requires-in-None g t c κs within =
    let known = known_tree c.args.place c.args.node.now c.as_slice-fields.result.now c.places_of_fields-places.result c.in-Tree.kind (c.in-Tree.is ∙ ap (λ ts. Tree c.in-Tree.kind ts) (sym c.as_slice-fields.ensures)) c.places_of_fields-places.ensures in
    let all = counted c.args.place c.args.node.now c.as_slice-fields.result.now c.places_of_fields-places.result known in
    (search (rules, the_lemmas), (search rules, omega (arith, all, c.requires)))

pub seek-overflow_add-next : goal.seek-overflow_add-next
seek-overflow_add-next g t c =
    let known = known_tree c.args.place c.args.node.now c.as_slice-fields.result.now c.places_of_fields-places.result c.in-Tree.kind (c.in-Tree.is ∙ ap (λ ts. Tree c.in-Tree.kind ts) (sym c.as_slice-fields.ensures)) c.places_of_fields-places.ensures in
    let all = counted c.args.place c.args.node.now c.as_slice-fields.result.now c.places_of_fields-places.result known in
    let own = ap (λ o. one_if (is_some o)) c.in-Some.ensures in
    omega (arith, all, own, c.requires)

pub seek-returns-in-Identifier-clause-found : goal.seek-returns-in-Identifier-clause-found
seek-returns-in-Identifier-clause-found g t c =
    let is = c.in-Identifier.is ∙ ap (λ i. Identifier c.in-Identifier.field-0 i) (sym c.get.ensures) in
    swapped c.is_sought.result _ _ c.is_sought.ensures (by_itself (g.Q.Question.is_sought c.args.question.now) c.args.listed (layers c.args.env.now) c.args.next.now c.args.place c.args.node.now c.in-Identifier.field-0 c.get.result.now is)

pub seek-returns-in-List-clause-found : goal.seek-returns-in-List-clause-found
seek-returns-in-List-clause-found g t c =
    let is = c.in-List.is ∙ ap (λ ts. Many ts) (sym c.as_slice-items.ensures) in
    let known = known_list c.args.place c.args.node.now c.as_slice-items.result.now c.places_of_items-places.result is c.places_of_items-places.ensures in
    in_turn c.seek_below.ensures.found (plain_passes c.args.place c.args.node.now c.as_slice-items.result.now c.places_of_items-places.result known (g.Q.Question.is_sought c.args.question.now) c.args.listed (layers c.args.env.now) c.args.next.now
    (sym (ap scope_of_fields c.places_of_items-places.ensures)) _ (listed_items c.args.listed c.args.node.now c.as_slice-items.result.now is) (λ _. layers c.args.env.now) (λ _. refl))

pub seek-returns-in-List-clause-next : goal.seek-returns-in-List-clause-next
seek-returns-in-List-clause-next g t c = λ e.
    let known = known_list c.args.place c.args.node.now c.as_slice-items.result.now c.places_of_items-places.result (c.in-List.is ∙ ap (λ ts. Many ts) (sym c.as_slice-items.ensures)) c.places_of_items-places.ensures in
    let all = counted c.args.place c.args.node.now c.as_slice-items.result.now c.places_of_items-places.result known in
    let none = ap (λ p. one_if (is_some (scope_of_fields p))) c.places_of_items-places.ensures in
    let below = c.seek_below.ensures.next e in
    omega (arith, all, none, below)

pub seek-returns-in-Some-clause-found : goal.seek-returns-in-Some-clause-found
seek-returns-in-Some-clause-found g t c =
    let is = c.in-Tree.is ∙ ap (λ ts. Tree c.in-Tree.kind ts) (sym c.as_slice-fields.ensures) in
    let known = known_tree c.args.place c.args.node.now c.as_slice-fields.result.now c.places_of_fields-places.result c.in-Tree.kind is c.places_of_fields-places.ensures in
    in_turn c.seek_below-in-Some.ensures.found (opened_passes c.args.place c.args.node.now c.as_slice-fields.result.now c.places_of_fields-places.result known (g.Q.Question.is_sought c.args.question.now) c.args.listed (layers c.args.env.now) c.args.next.now
    c.in-Some.scope (sees_in c.new-inside.result) _ c.in-Some.ensures _ (listed_fields c.args.listed c.args.node.now c.in-Tree.kind c.as_slice-fields.result.now is) c.new-inside.ensures refl)

pub seek-returns-in-Some-clause-next : goal.seek-returns-in-Some-clause-next
seek-returns-in-Some-clause-next g t c = λ e.
    let known = known_tree c.args.place c.args.node.now c.as_slice-fields.result.now c.places_of_fields-places.result c.in-Tree.kind (c.in-Tree.is ∙ ap (λ ts. Tree c.in-Tree.kind ts) (sym c.as_slice-fields.ensures)) c.places_of_fields-places.ensures in
    let all = counted c.args.place c.args.node.now c.as_slice-fields.result.now c.places_of_fields-places.result known in
    let own = ap (λ o. one_if (is_some o)) c.in-Some.ensures in
    let below = c.seek_below-in-Some.ensures.next e in
    omega (arith, all, own, below)

pub seek-returns-in-None-clause-found : goal.seek-returns-in-None-clause-found
seek-returns-in-None-clause-found g t c =
    let is = c.in-Tree.is ∙ ap (λ ts. Tree c.in-Tree.kind ts) (sym c.as_slice-fields.ensures) in
    let known = known_tree c.args.place c.args.node.now c.as_slice-fields.result.now c.places_of_fields-places.result c.in-Tree.kind is c.places_of_fields-places.ensures in
    in_turn c.seek_below-in-None.ensures.found (plain_passes c.args.place c.args.node.now c.as_slice-fields.result.now c.places_of_fields-places.result known (g.Q.Question.is_sought c.args.question.now) c.args.listed (layers c.args.env.now) c.args.next.now
    c.in-None.ensures _ (listed_fields c.args.listed c.args.node.now c.in-Tree.kind c.as_slice-fields.result.now is) (λ _. layers c.args.env.now) (λ _. refl))

pub seek-returns-in-None-clause-next : goal.seek-returns-in-None-clause-next
seek-returns-in-None-clause-next g t c = λ e.
    let known = known_tree c.args.place c.args.node.now c.as_slice-fields.result.now c.places_of_fields-places.result c.in-Tree.kind (c.in-Tree.is ∙ ap (λ ts. Tree c.in-Tree.kind ts) (sym c.as_slice-fields.ensures)) c.places_of_fields-places.ensures in
    let all = counted c.args.place c.args.node.now c.as_slice-fields.result.now c.places_of_fields-places.result known in
    let none = ap (λ o. one_if (is_some o)) c.in-None.ensures in
    let below = c.seek_below-in-None.ensures.next e in
    omega (arith, all, none, below)

pub seek-returns-in_default : goal.seek-returns-in_default
seek-returns-in_default g t c =
    let told = nameless c.args.node.now c.in_default.not-List c.in_default.not-Identifier c.in_default.not-Tree in
    let none = leaf_counts_none c.args.place c.args.node.now told in
    record {
      found = (λ h. absurd (cc), λ p. absurd (none_in_leaf _ _ _ _ _ c.args.node.now told p));
      next = λ e. omega (arith, none);
    }

pub seek_below-seek-requires : goal.seek_below-seek-requires
seek_below-seek-requires g t c κs within =
    let here = slice_get_read c.args.nodes.now _ c.loop-i.i c.index-nodes-i.result refl (omega arith) c.index-nodes-i.is in
    let part = total_part (places_of c.args.places c.args.nodes.now) c.args.nodes.now c.loop-i.i c.index-nodes-i.result here in
    let stood = c.at.ensures ∙ ap (place_of c.args.places c.loop-i.i) (sym here) in
    let same = ap (λ w. scope_count w c.index-nodes-i.result) stood in
    (search (rules, the_lemmas), (search rules, omega (arith, part, same, c.loop-i.invariant.next, c.requires)))

pub seek_below-loop-i-preserved : goal.seek_below-loop-i-preserved
seek_below-loop-i-preserved g t c =
    let here = slice_get_read c.args.nodes.now _ c.loop-i.i c.index-nodes-i.result refl (omega arith) c.index-nodes-i.is in
    let next = total_next (places_of c.args.places c.args.nodes.now) c.args.nodes.now c.loop-i.i c.index-nodes-i.result here in
    let stood = c.at.ensures ∙ ap (place_of c.args.places c.loop-i.i) (sym here) in
    let same = ap (λ w. scope_count w c.index-nodes-i.result) stood in
    let after = c.seek.ensures.next c.if-seek.false in
    record {
      next = omega (arith, next, same, c.loop-i.invariant.next, after);
      none = still_none (g.Q.Question.is_sought c.args.question.now) (λ i. listed_at c.args.lists i) (λ i. sees c.args.views (view_of c.args.places i)) c.args.next.now (places_of c.args.places c.args.nodes.now) c.args.nodes.now c.loop-i.i
          c.index-nodes-i.result here _ _ _ _ c.at-in-loop-i.ensures (c.seen-env.ensures ∙ ap (sees c.args.views) c.view.ensures) c.loop-i.invariant.next stood c.seek.result c.seek.ensures.found c.if-seek.false c.loop-i.invariant.none;
    }

pub seek_below-loop-i-preserved-then-not-may_hold_names : goal.seek_below-loop-i-preserved-then-not-may_hold_names
seek_below-loop-i-preserved-then-not-may_hold_names g t c =
    let item = c.index-nodes-i.result in
    let here = slice_get_read c.args.nodes.now _ c.loop-i.i item refl (omega arith) c.index-nodes-i.is in
    let next = total_next (places_of c.args.places c.args.nodes.now) c.args.nodes.now c.loop-i.i item here in
    let told = sym c.may_hold_names.ensures ∙ c.if-not-may_hold_names.true in
    let none = leaf_counts_none (places_of c.args.places c.args.nodes.now c.loop-i.i) item told in
    record {
      next = omega (arith, next, none, c.loop-i.invariant.next);
      none = leaf_none (g.Q.Question.is_sought c.args.question.now) (λ i. listed_at c.args.lists i) (λ i. sees c.args.views (view_of c.args.places i)) c.args.next.now (places_of c.args.places c.args.nodes.now) c.args.nodes.now c.loop-i.i
          item here told c.loop-i.invariant.none;
    }

pub seek_below-loop-i-init : goal.seek_below-loop-i-init
seek_below-loop-i-init g t c = record {
  next = omega arith;
  none = none_below (g.Q.Question.is_sought c.args.question.now) (λ i. listed_at c.args.lists i) (λ i. sees c.args.views (view_of c.args.places i)) c.args.next.now (places_of c.args.places c.args.nodes.now) c.args.nodes.now;
}

pub seek_below-returns-then-seek-clause-found : goal.seek_below-returns-then-seek-clause-found
seek_below-returns-then-seek-clause-found g t c =
    let here = slice_get_read c.args.nodes.now _ c.loop-i.i c.index-nodes-i.result refl (omega arith) c.index-nodes-i.is in
    let stood = c.at.ensures ∙ ap (place_of c.args.places c.loop-i.i) (sym here) in (
      λ _. found_below (g.Q.Question.is_sought c.args.question.now) (λ i. listed_at c.args.lists i) (λ i. sees c.args.views (view_of c.args.places i)) c.args.next.now (places_of c.args.places c.args.nodes.now) c.args.nodes.now c.loop-i.i
          c.index-nodes-i.result here _ _ _ _ c.at-in-loop-i.ensures (c.seen-env.ensures ∙ ap (sees c.args.views) c.view.ensures) c.loop-i.invariant.next stood c.seek.result c.seek.ensures.found c.if-seek.true (omega arith),
      λ _. refl,
    )

pub seek_below-returns : goal.seek_below-returns
seek_below-returns g t c =
    let ended : c.loop-i.i ≡ length c.args.nodes.now = omega arith in
    record {
      found = (
        λ h. absurd (cc),
        λ p. absurd (c.loop-i.invariant.none (subst (λ m. PassesBelow (g.Q.Question.is_sought c.args.question.now) (λ i. listed_at c.args.lists i) (λ i. sees c.args.views (view_of c.args.places i)) c.args.next.now (places_of c.args.places c.args.nodes.now)
            c.args.nodes.now m) (sym ended) p)),
      );
      next = λ e. omega (arith, c.loop-i.invariant.next, ap (λ m. total (each_in scope_count (places_of c.args.places c.args.nodes.now) (take m c.args.nodes.now))) ended, ap (λ us. total (each_in scope_count (places_of c.args.places c.args.nodes.now) us)) (all_taken c.args.nodes.now));
    }
