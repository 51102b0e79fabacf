use Rattle.std.proofs.Common.{ℕ, Bool, List, length, arith, rules, refl, sym, ap, ◌∙◌, length-set}
use Rattle.std.specs.List.{slice_get}
use Rattle.std.specs.Option.{is_some, option_map}
use Rattle.std.proofs.lemmas.Result.{on_ok_weaker}
use Rattle.std.proofs.lemmas.Option.{slice_get_read}
use Rattle.swc_tree_node.specs.declared.node.Node.{Node, Tree, the_lemmas}
use Rattle.swc_tree_node.proofs.Lent.{list_of_children, tree_of_children}
use Rattle.swc_tree_scoping.specs.declared.below.PlacesBelow.TheVariants.{Fields}
use Rattle.swc_tree_scoping.specs.Folds.{each_in}
use Rattle.swc_tree_scoping.specs.Below.{fields_are, place_of, places_of, scope_of_fields, view_of}
use Rattle.swc_tree_scoping.specs.Scopes.{one_if, scope_count, total}
use Rattle.swc_base_resolver_program.specs.Lookup.{Open, layers}
use Rattle.swc_base_resolver_program.specs.Walks.{exports_at, marking_in, sees, sees_in, written}
use Rattle.swc_tree_scoping.specs.Resolved.{remarked}
use Rattle.swc_base_resolver_program.proofs.Counted.{total_next, total_part}
use Rattle.swc_base_resolver_program.proofs.Gathered.{counted, known_list, known_tree, leaf_counts_none}
use Rattle.swc_base_resolver_program.proofs.Walked.{list_done, plain_done, scope_done, child_is, child_done, got_at_most, leaf_done, some_same}
use Rattle.swc_base_resolver_program.proofs.walk.+resolve.Goals as goal

pub resolve-resolve_fields-requires : goal.resolve-resolve_fields-requires
resolve-resolve_fields-requires t c =
    let fields = c.in-Some.children.now in
    let tree = tree_of_children c.args.node.now c.in-Some-kind.kind fields fields (sym c.in-Some-kind.is ∙ c.kind-kind.ensures) (sym (ap (option_map (λ r. r.now)) c.in-Some.is) ∙ c.children_mut.ensures.value) in
    let is = tree.0 in
    let same = ap (scope_count c.args.place) is in
    (search (rules, the_lemmas, is), omega (arith, same, c.requires))

pub resolve-resolve_children-requires : goal.resolve-resolve_children-requires
resolve-resolve_children-requires t c =
    let items = c.in-Some.children.now in
    let node = c.args.node.now in
    let list = list_of_children node items items (sym c.in-None.is ∙ c.kind-kind.ensures) (sym (ap (option_map (λ r. r.now)) c.in-Some.is) ∙ c.children_mut.ensures.value) in
    let is = list.0 in
    let known = known_list c.args.place node items c.places_of_items-places.result is c.places_of_items-places.ensures in
    let all = counted c.args.place node items c.places_of_items-places.result known in
    let none = ap (λ p. one_if (is_some (scope_of_fields p))) c.places_of_items-places.ensures in
    (search (rules, the_lemmas, is), omega (arith, all, none, c.requires))

pub resolve-returns-in-None : goal.resolve-returns-in-None
resolve-returns-in-None t c =
    let items = c.in-Some.children.now in
    let node = c.args.node.now in
    let list = list_of_children node items c.resolve_children.new.nodes (sym c.in-None.is ∙ c.kind-kind.ensures) (sym (ap (option_map (λ r. r.now)) c.in-Some.is) ∙ c.children_mut.ensures.value) in
    let known = known_list c.args.place node items c.places_of_items-places.result list.0 c.places_of_items-places.ensures in
    let all = counted c.args.place node items c.places_of_items-places.result known in
    let none = ap (λ p. one_if (is_some (scope_of_fields p))) c.places_of_items-places.ensures in
    record {
      answer = on_ok_weaker c.resolve_children.result
          (λ done. list.1 ∙ list_done (marking_in c.args.answers.now) c.args.place node items c.places_of_items-places.result known c.args.around.exported (λ _. c.args.around.exported) (layers c.args.around.env.now) c.args.next.now c.resolve_children.new.nodes (λ _. layers c.args.around.env.now)
          list.0 (λ _. refl) (sym (ap scope_of_fields c.places_of_items-places.ensures)) (λ _. refl) done)
          c.resolve_children.ensures.answer;
      next = on_ok_weaker c.resolve_children.result (λ next. omega (arith, all, none, next)) c.resolve_children.ensures.next;
    }

pub resolve_fields-resolve_children-requires : goal.resolve_fields-resolve_children-requires
resolve_fields-resolve_children-requires t c =
    let kind = c.args.kind in
    let ts = c.args.fields.now in
    let node = Tree kind ts in
    let same_fields = c.as_slice.ensures in
    let known = known_tree c.args.place node c.as_slice.result.now c.places_of_fields-places.result kind (ap (λ ts. Tree kind ts) (sym same_fields)) c.places_of_fields-places.ensures in
    let all = counted c.args.place node c.as_slice.result.now c.places_of_fields-places.result known in
    let same = ap (λ ts. total (each_in scope_count (places_of c.places_of_fields-places.result ts) ts)) same_fields in
    let own = ap (λ o. one_if (is_some o)) c.in-Some.ensures in
    (search (rules, the_lemmas), omega (arith, all, own, same, c.requires))

pub resolve_fields-resolve_children-requires-in-None : goal.resolve_fields-resolve_children-requires-in-None
resolve_fields-resolve_children-requires-in-None t c =
    let kind = c.args.kind in
    let ts = c.args.fields.now in
    let node = Tree kind ts in
    let same_fields = c.as_slice.ensures in
    let known = known_tree c.args.place node c.as_slice.result.now c.places_of_fields-places.result kind (ap (λ ts. Tree kind ts) (sym same_fields)) c.places_of_fields-places.ensures in
    let all = counted c.args.place node c.as_slice.result.now c.places_of_fields-places.result known in
    let same = ap (λ ts. total (each_in scope_count (places_of c.places_of_fields-places.result ts) ts)) same_fields in
    (search (rules, the_lemmas), omega (arith, all, same, c.requires))

pub resolve_fields-prove-unreachable-requires : goal.resolve_fields-prove-unreachable-requires
resolve_fields-prove-unreachable-requires t c =
    let kind = c.args.kind in
    let ts = c.args.fields.now in
    let node = Tree kind ts in
    let same_fields = c.as_slice.ensures in
    let known = known_tree c.args.place node c.as_slice.result.now c.places_of_fields-places.result kind (ap (λ ts. Tree kind ts) (sym same_fields)) c.places_of_fields-places.ensures in
    let all = counted c.args.place node c.as_slice.result.now c.places_of_fields-places.result known in
    let same = ap (λ ts. total (each_in scope_count (places_of c.places_of_fields-places.result ts) ts)) same_fields in
    let own = ap (λ o. one_if (is_some o)) c.in-Some.ensures in
    omega (arith, all, own, c.requires, c.if-prove.true)

pub resolve_fields-returns-in_ok-resolve_children-in-None-clause-answer : goal.resolve_fields-returns-in_ok-resolve_children-in-None-clause-answer
resolve_fields-returns-in_ok-resolve_children-in-None-clause-answer t c =
    let kind = c.args.kind in
    let ts = c.args.fields.now in
    let known = known_tree c.args.place (Tree kind ts) ts c.places_of_fields-places.result kind refl (c.places_of_fields-places.ensures ∙ ap (λ ts. Fields (fields_are c.args.place kind ts)) c.as_slice.ensures) in
    plain_done (marking_in c.args.answers.now) c.args.place (Tree kind ts) ts c.places_of_fields-places.result known c.args.around.exported (exports_at c.exports_of-exports.result) (layers c.args.around.env.now) c.args.next.now _ (λ _. layers c.args.around.env.now) kind refl (c.exports_of-exports.ensures ts) c.in-None.ensures (λ _. refl) c.in_ok-resolve_children-in-None.ensures.answer

pub resolve_fields-returns-in_ok-resolve_children-in-None-clause-next : goal.resolve_fields-returns-in_ok-resolve_children-in-None-clause-next
resolve_fields-returns-in_ok-resolve_children-in-None-clause-next t c =
    let kind = c.args.kind in
    let ts = c.args.fields.now in
    let node = Tree kind ts in
    let same_fields = c.as_slice.ensures in
    let known = known_tree c.args.place node c.as_slice.result.now c.places_of_fields-places.result kind (ap (λ ts. Tree kind ts) (sym same_fields)) c.places_of_fields-places.ensures in
    let all = counted c.args.place node c.as_slice.result.now c.places_of_fields-places.result known in
    let same = ap (λ ts. total (each_in scope_count (places_of c.places_of_fields-places.result ts) ts)) same_fields in
    let none = ap (λ o. one_if (is_some o)) c.in-None.ensures in
    omega (arith, all, none, same, c.in_ok-resolve_children-in-None.ensures.next)

pub resolve_fields-returns-in_ok-resolve_children-in-Some-clause-answer : goal.resolve_fields-returns-in_ok-resolve_children-in-Some-clause-answer
resolve_fields-returns-in_ok-resolve_children-in-Some-clause-answer t c =
    let kind = c.args.kind in
    let ts = c.args.fields.now in
    let known = known_tree c.args.place (Tree kind ts) ts c.places_of_fields-places.result kind refl (c.places_of_fields-places.ensures ∙ ap (λ ts. Fields (fields_are c.args.place kind ts)) c.as_slice.ensures) in
    scope_done (marking_in c.args.answers.now) c.args.place (Tree kind ts) ts c.places_of_fields-places.result known c.args.around.exported (exports_at c.exports_of-exports.result) (layers c.args.around.env.now) c.args.next.now _ (sees_in c.new-inside.result) kind c.in-Some.scope _ refl (c.exports_of-exports.ensures ts) c.in-Some.ensures c.new-inside.ensures refl c.in_ok-resolve_children-in-Some.ensures.answer

pub resolve_fields-returns-in_ok-resolve_children-in-Some-clause-next : goal.resolve_fields-returns-in_ok-resolve_children-in-Some-clause-next
resolve_fields-returns-in_ok-resolve_children-in-Some-clause-next t c =
    let kind = c.args.kind in
    let ts = c.args.fields.now in
    let node = Tree kind ts in
    let same_fields = c.as_slice.ensures in
    let known = known_tree c.args.place node c.as_slice.result.now c.places_of_fields-places.result kind (ap (λ ts. Tree kind ts) (sym same_fields)) c.places_of_fields-places.ensures in
    let all = counted c.args.place node c.as_slice.result.now c.places_of_fields-places.result known in
    let same = ap (λ ts. total (each_in scope_count (places_of c.places_of_fields-places.result ts) ts)) same_fields in
    let own = ap (λ o. one_if (is_some o)) c.in-Some.ensures in
    omega (arith, all, own, same, c.in_ok-resolve_children-in-Some.ensures.next)

pub resolve_children-resolve-requires : goal.resolve_children-resolve-requires
resolve_children-resolve-requires t c =
    let a = marking_in c.args.answers.now in
    let ts = c.args.nodes.now in
    let ps = places_of c.args.places ts in
    let i = c.loop-i.i in
    let envs : ℕ → List Open = λ i. sees c.args.views (view_of c.args.places i) in
    let es : ℕ → Bool = λ i. exports_at c.args.exports i in
    let item = c.index-as_slice-i.result in
    let long = ap length c.as_slice.ensures in
    let taken = sym (ap (λ ts. slice_get ts i) c.as_slice.ensures) ∙ slice_get_read c.as_slice.result.now _ i item refl (omega (arith, long)) c.index-as_slice-i.is in
    let here = child_is a es envs ts c.loop-i.nodes ps c.args.next.now i c.loop-i.next item (omega arith) c.loop-i.invariant.done taken in
    let got = some_same (sym c.item_mut.ensures.value ∙ taken) in
    let stood = c.at-place.ensures ∙ ap (place_of c.args.places i) (sym here) in
    let same = ap (λ w. scope_count w c.item_mut.result.now) stood ∙ ap (scope_count (ps i)) got in
    let part = total_part ps ts i item here in
    let smaller = λ (μ : Node → ℕ). got_at_most μ ts i item here in
    (search (rules, the_lemmas, smaller, got), omega (arith, part, same, c.requires, c.loop-i.invariant.count))

pub resolve_children-loop-i-preserved : goal.resolve_children-loop-i-preserved
resolve_children-loop-i-preserved t c =
    let a = marking_in c.args.answers.now in
    let ts = c.args.nodes.now in
    let ps = places_of c.args.places ts in
    let i = c.loop-i.i in
    let envs : ℕ → List Open = λ i. sees c.args.views (view_of c.args.places i) in
    let es : ℕ → Bool = λ i. exports_at c.args.exports i in
    let item = c.index-as_slice-i.result in
    let long = ap length c.as_slice.ensures in
    let taken = sym (ap (λ ts. slice_get ts i) c.as_slice.ensures) ∙ slice_get_read c.as_slice.result.now _ i item refl (omega (arith, long)) c.index-as_slice-i.is in
    let here = child_is a es envs ts c.loop-i.nodes ps c.args.next.now i c.loop-i.next item (omega arith) c.loop-i.invariant.done taken in
    let got = some_same (sym c.item_mut.ensures.value ∙ taken) in
    let stood = c.at-place.ensures ∙ ap (place_of c.args.places i) (sym here) in
    let same = ap (λ w. scope_count w c.item_mut.result.now) stood ∙ ap (scope_count (ps i)) got in
    let next = total_next ps ts i item here in
    let env_is = c.seen-env.ensures ∙ ap (sees c.args.views) c.view.ensures in
    record {
      size = simp length-set c.loop-i.invariant.size;
      done = child_done a es envs ts c.loop-i.nodes ps c.args.next.now i c.loop-i.next item (omega arith) c.loop-i.invariant.done taken
          c.loop-i.invariant.count c.at-exported.result (layers c.seen-env.result.now) c.at-place.result c.at-exported.ensures env_is stood c.resolve.new.node (c.in_ok-resolve.ensures.answer ∙ ap (λ t. remarked (written a c.at-exported.result (layers c.seen-env.result.now) c.loop-i.next c.at-place.result t) t) got);
      count = omega (arith, next, same, c.loop-i.invariant.count, c.in_ok-resolve.ensures.next);
    }

pub resolve_children-loop-i-preserved-then-not-may_hold_names : goal.resolve_children-loop-i-preserved-then-not-may_hold_names
resolve_children-loop-i-preserved-then-not-may_hold_names t c =
    let a = marking_in c.args.answers.now in
    let ts = c.args.nodes.now in
    let ps = places_of c.args.places ts in
    let i = c.loop-i.i in
    let envs : ℕ → List Open = λ i. sees c.args.views (view_of c.args.places i) in
    let es : ℕ → Bool = λ i. exports_at c.args.exports i in
    let item = c.index-as_slice-i.result in
    let long = ap length c.as_slice.ensures in
    let taken = sym (ap (λ ts. slice_get ts i) c.as_slice.ensures) ∙ slice_get_read c.as_slice.result.now _ i item refl (omega (arith, long)) c.index-as_slice-i.is in
    let here = child_is a es envs ts c.loop-i.nodes ps c.args.next.now i c.loop-i.next item (omega arith) c.loop-i.invariant.done taken in
    let told = sym c.may_hold_names.ensures ∙ c.if-not-may_hold_names.true in
    let next = total_next ps ts i item here in
    let none = leaf_counts_none (ps i) item told in
    record {
      size = c.loop-i.invariant.size;
      done = leaf_done a es envs ts c.loop-i.nodes ps c.args.next.now i c.loop-i.next item (omega arith) c.loop-i.invariant.done taken told;
      count = omega (arith, next, none, c.loop-i.invariant.count);
    }
