use Rattle.std.proofs.Common.{◌≡◌, ℕ, ◌<◌, List, length, arith, rules, refl, sym, ap, ◌∙◌, subst}
use Rattle.std.specs.Option.{is_some}
use Rattle.std.proofs.lemmas.Option.{slice_get_read}
use Rattle.swc_tree_node.specs.declared.node.Node.{Identifier, List as Many, Tree, out-Node, the_lemmas}
use Rattle.swc_tree_node.specs.declared.node.Node.TheVariants.{outs-Tree}
use Rattle.swc_tree_scoping.specs.Below.{place_of, places_of, scope_of_fields, view_of}
use Rattle.swc_tree_scoping.specs.Scopes.{one_if, scope_count}
use Rattle.swc_base_resolver_program.specs.Lookup.{Open, layers}
use Rattle.swc_base_resolver_program.specs.Walks.{AreBelow, Gains, Reaches, ReachesBelow, TakesIdentifier, inside, members_sought, sees, sees_in}
use Rattle.swc_base_resolver_program.proofs.Counted.{total_next}
use Rattle.swc_base_resolver_program.proofs.Gathered.{by_itself, child_gains, counted, gains_after, gains_alike, known_list, known_tree, leaf_counts_none, leaf_gains_nothing, members_here, nameless, opened_gains, plain_gains}
use Rattle.swc_base_resolver_program.proofs.Below.{below_more, pick_below}
use Rattle.swc_base_resolver_program.proofs.collect.+gather.Goals as goal

pub gather-gather_children-requires : goal.gather-gather_children-requires
gather-gather_children-requires t c = (search (rules, the_lemmas), λ v. c.requires)

pub gather-gather_children-requires-in-Some : goal.gather-gather_children-requires-in-Some
gather-gather_children-requires-in-Some t c =
    let size : ℕ = length c.add_members.new.tables.items in
    let outside = below_more _ size (layers c.args.env.now) (omega (arith, c.in_ok-number-in-Some.ensures.size, c.in_ok-add_members-in-Some.ensures.size)) c.requires in
    let own : c.in_ok-number-in-Some.number < size = omega (arith, c.in_ok-number-in-Some.ensures.size, c.in_ok-number-in-Some.ensures.number, c.in_ok-add_members-in-Some.ensures.size) in
    (search (rules, the_lemmas), λ v. subst (AreBelow size) (sym (c.new-inside.ensures v)) (pick_below size _ _ _ outside (own, outside) (own, outside) v))

pub gather-gather_children-requires-in-None : goal.gather-gather_children-requires-in-None
gather-gather_children-requires-in-None t c = (search (rules, the_lemmas), λ v. c.requires)

pub gather-returns-in_ok-gather_identifier-in-Identifier-clause-tables : goal.gather-returns-in_ok-gather_identifier-in-Identifier-clause-tables
gather-returns-in_ok-gather_identifier-in-Identifier-clause-tables t c =
    gains_alike c.args.tables.now.items c.gather_identifier.new.tables.items (TakesIdentifier c.args.stage (layers c.args.env.now) c.args.place.standing c.in-Identifier.kind c.get.result.now)
    (Reaches c.args.stage (layers c.args.env.now) (length c.args.tables.now.items) c.args.place c.args.node.now) c.in_ok-gather_identifier-in-Identifier.ensures.tables
    (λ k v x. by_itself c.args.stage (layers c.args.env.now) (length c.args.tables.now.items) c.args.place c.args.node.now c.in-Identifier.kind c.get.result.now (c.in-Identifier.is ∙ ap (λ i. Identifier c.in-Identifier.kind i) (sym c.get.ensures)) k v x)

pub gather-returns-in_ok-gather_children-in-List-clause-size : goal.gather-returns-in_ok-gather_children-in-List-clause-size
gather-returns-in_ok-gather_children-in-List-clause-size t c =
    let known = known_list c.args.place c.args.node.now c.as_slice-items.result.now c.places_of_items-places.result (c.in-List.is ∙ ap (λ ts. Many ts) (sym c.as_slice-items.ensures)) c.places_of_items-places.ensures in
    let all = counted c.args.place c.args.node.now c.as_slice-items.result.now c.places_of_items-places.result known in
    let none = ap (λ p. one_if (is_some (scope_of_fields p))) c.places_of_items-places.ensures in
    omega (arith, all, none, c.in_ok-gather_children-in-List.ensures.size)

pub gather-returns-in_ok-gather_children-in-List-clause-tables : goal.gather-returns-in_ok-gather_children-in-List-clause-tables
gather-returns-in_ok-gather_children-in-List-clause-tables t c =
    let known = known_list c.args.place c.args.node.now c.as_slice-items.result.now c.places_of_items-places.result (c.in-List.is ∙ ap (λ ts. Many ts) (sym c.as_slice-items.ensures)) c.places_of_items-places.ensures in
    plain_gains c.args.place c.args.node.now c.as_slice-items.result.now c.places_of_items-places.result known c.args.stage (layers c.args.env.now) (length c.args.tables.now.items) c.args.tables.now.items _
    (sym (ap scope_of_fields c.places_of_items-places.ensures)) (λ _. layers c.args.env.now) (λ _. refl) c.in_ok-gather_children-in-List.ensures.tables

pub gather-returns-in_ok-gather_children-in-None-clause-size : goal.gather-returns-in_ok-gather_children-in-None-clause-size
gather-returns-in_ok-gather_children-in-None-clause-size t c =
    let known = known_tree c.args.place c.args.node.now c.as_slice-fields.result.now c.places_of_fields-places.result c.in-Tree.kind (c.in-Tree.is ∙ ap (λ ts. Tree c.in-Tree.kind ts) (sym c.as_slice-fields.ensures)) c.places_of_fields-places.ensures in
    let all = counted c.args.place c.args.node.now c.as_slice-fields.result.now c.places_of_fields-places.result known in
    let none = ap (λ o. one_if (is_some o)) c.in-None.ensures in
    omega (arith, all, none, c.in_ok-gather_children-in-None.ensures.size)

pub gather-returns-in_ok-gather_children-in-None-clause-tables : goal.gather-returns-in_ok-gather_children-in-None-clause-tables
gather-returns-in_ok-gather_children-in-None-clause-tables t c =
    let known = known_tree c.args.place c.args.node.now c.as_slice-fields.result.now c.places_of_fields-places.result c.in-Tree.kind (c.in-Tree.is ∙ ap (λ ts. Tree c.in-Tree.kind ts) (sym c.as_slice-fields.ensures)) c.places_of_fields-places.ensures in
    plain_gains c.args.place c.args.node.now c.as_slice-fields.result.now c.places_of_fields-places.result known c.args.stage (layers c.args.env.now) (length c.args.tables.now.items) c.args.tables.now.items _
    c.in-None.ensures (λ _. layers c.args.env.now) (λ _. refl) c.in_ok-gather_children-in-None.ensures.tables

pub gather-returns-in_ok-gather_children-in-Some-clause-size : goal.gather-returns-in_ok-gather_children-in-Some-clause-size
gather-returns-in_ok-gather_children-in-Some-clause-size t c =
    let known = known_tree c.args.place c.args.node.now c.as_slice-fields.result.now c.places_of_fields-places.result c.in-Tree.kind (c.in-Tree.is ∙ ap (λ ts. Tree c.in-Tree.kind ts) (sym c.as_slice-fields.ensures)) c.places_of_fields-places.ensures in
    let all = counted c.args.place c.args.node.now c.as_slice-fields.result.now c.places_of_fields-places.result known in
    let own = ap (λ o. one_if (is_some o)) c.in-Some.ensures in
    omega (arith, all, own, c.in_ok-number-in-Some.ensures.size, c.in_ok-add_members-in-Some.ensures.size, c.in_ok-gather_children-in-Some.ensures.size)

pub gather-returns-in_ok-gather_children-in-Some-clause-tables : goal.gather-returns-in_ok-gather_children-in-Some-clause-tables
gather-returns-in_ok-gather_children-in-Some-clause-tables t c =
    let known = known_tree c.args.place c.args.node.now c.as_slice-fields.result.now c.places_of_fields-places.result c.in-Tree.kind (c.in-Tree.is ∙ ap (λ ts. Tree c.in-Tree.kind ts) (sym c.as_slice-fields.ensures)) c.places_of_fields-places.ensures in
    let is : c.members.result.now ≡ members_here c.args.stage (out-Node c.args.node.now)
    = c.members.ensures ∙ ap (members_sought c.args.stage c.in-Tree.kind) c.as_slice-fields.ensures
    ∙ sym (ap (members_here c.args.stage) (ap out-Node c.in-Tree.is ∙ outs-Tree c.in-Tree.kind _)) in
    gains_after c.args.tables.now.items c.add_table.new.tables.items _ _ c.in_ok-number-in-Some.ensures.alike
    (opened_gains c.args.place c.args.node.now c.as_slice-fields.result.now c.places_of_fields-places.result known c.args.stage (layers c.args.env.now) (length c.args.tables.now.items) c.add_table.new.tables.items _
    c.add_members.new.tables.items c.members.result.now c.in_ok-number-in-Some.number c.in_ok-number-in-Some.ensures.number is c.in_ok-add_members-in-Some.ensures.tables
    c.in-Some.scope (sees_in c.new-inside.result) _ c.in-Some.ensures (λ v. c.new-inside.ensures v ∙ ap (λ n. inside c.in-Some.scope n (layers c.args.env.now) v) c.in_ok-number-in-Some.ensures.number)
    (omega (arith, c.in_ok-number-in-Some.ensures.size, c.in_ok-add_members-in-Some.ensures.size)) c.in_ok-gather_children-in-Some.ensures.tables)

pub gather-returns-in_default : goal.gather-returns-in_default
gather-returns-in_default t c =
    let told = nameless c.args.node.now c.in_default.not-List c.in_default.not-Identifier c.in_default.not-Tree in
    let none = leaf_counts_none c.args.place c.args.node.now told in
    record {
      size = omega (arith, none);
      tables = leaf_gains_nothing c.args.stage (layers c.args.env.now) (length c.args.tables.now.items) c.args.place c.args.node.now c.args.tables.now.items told;
    }

pub gather_children-gather-requires : goal.gather_children-gather-requires
gather_children-gather-requires t c =
    (search (rules, the_lemmas), subst (λ env. AreBelow (length c.loop-i.tables.items) env) (sym c.seen-env.ensures) (below_more _ _ _ (omega (arith, c.loop-i.invariant.size)) (c.requires c.view.result)))

pub gather_children-loop-i-preserved : goal.gather_children-loop-i-preserved
gather_children-loop-i-preserved t c =
    let here = slice_get_read c.args.nodes.now _ c.loop-i.i c.index-nodes-i.result refl (omega arith) c.index-nodes-i.is in
    let next = total_next (places_of c.args.places c.args.nodes.now) c.args.nodes.now c.loop-i.i c.index-nodes-i.result here in
    let stood = c.at.ensures ∙ ap (place_of c.args.places c.loop-i.i) (sym here) in
    let same = ap (λ w. scope_count w c.index-nodes-i.result) stood in
    let envs : ℕ → List Open = λ i. sees c.args.views (view_of c.args.places i) in
    let env_is = c.seen-env.ensures ∙ ap (sees c.args.views) c.view.ensures in
    record {
      size = omega (arith, next, same, c.loop-i.invariant.size, c.in_ok-gather.ensures.size);
      tables = child_gains c.args.stage envs (length c.args.tables.now.items) (places_of c.args.places c.args.nodes.now) c.args.nodes.now c.loop-i.i c.index-nodes-i.result here c.args.tables.now.items c.loop-i.tables.items _ c.loop-i.invariant.tables
          (layers c.seen-env.result.now) (length c.loop-i.tables.items) c.at.result env_is c.loop-i.invariant.size stood c.in_ok-gather.ensures.tables;
    }

pub gather_children-loop-i-preserved-then-not-may_hold_names : goal.gather_children-loop-i-preserved-then-not-may_hold_names
gather_children-loop-i-preserved-then-not-may_hold_names t c =
    let item = c.index-nodes-i.result in
    let here = slice_get_read c.args.nodes.now _ c.loop-i.i item refl (omega arith) c.index-nodes-i.is in
    let next = total_next (places_of c.args.places c.args.nodes.now) c.args.nodes.now c.loop-i.i item here in
    let told = sym c.may_hold_names.ensures ∙ c.if-not-may_hold_names.true in
    let place = places_of c.args.places c.args.nodes.now c.loop-i.i in
    let none = leaf_counts_none place item told in
    let envs : ℕ → List Open = λ i. sees c.args.views (view_of c.args.places i) in
    record {
      size = omega (arith, next, none, c.loop-i.invariant.size);
      tables = child_gains c.args.stage envs (length c.args.tables.now.items) (places_of c.args.places c.args.nodes.now) c.args.nodes.now c.loop-i.i item here c.args.tables.now.items c.loop-i.tables.items _ c.loop-i.invariant.tables
          (envs c.loop-i.i) (length c.loop-i.tables.items) place refl c.loop-i.invariant.size refl (leaf_gains_nothing c.args.stage (envs c.loop-i.i) (length c.loop-i.tables.items) place item c.loop-i.tables.items told);
    }

pub gather_children-returns-clause-tables : goal.gather_children-returns-clause-tables
gather_children-returns-clause-tables t c =
    let envs : ℕ → List Open = λ i. sees c.args.views (view_of c.args.places i) in
    let ended : c.loop-i.i ≡ length c.args.nodes.now = omega arith in
    subst (λ m. Gains c.args.tables.now.items c.loop-i.tables.items (ReachesBelow c.args.stage envs (length c.args.tables.now.items) (places_of c.args.places c.args.nodes.now) c.args.nodes.now m)) ended c.loop-i.invariant.tables
