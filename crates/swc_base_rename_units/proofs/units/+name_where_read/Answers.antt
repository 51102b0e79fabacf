use Rattle.std.proofs.Common.{◌≡◌, ◌≤◌, ◌+◌, ◌||◌, true, not, inl, ◌∙◌, length, arith, sym, subst, refl}
use Rattle.std.specs.List.{slice_set}
use Rattle.std.proofs.lemmas.Result.{err_from_is_err_and}
use Rattle.swc_tree_node.specs.declared.node.Node.{Absent}
use Rattle.swc_base_rename_units.specs.Walk.{AreFreeTo, AreNamedTo, RefusesBefore, RefusesChild, waiting_to}
use Rattle.swc_base_rename_units.proofs.Steps.{put_length}
use Rattle.swc_base_rename_units.proofs.Walking.{KeptWhere, NoneTo, SoundFor, before_reader, each_walked, either_first, either_second, leaf_walked, list_walk_refused, list_walked, more_done, more_kept, more_none, more_same, more_sound, next_kept, next_named, next_refused, next_walked, tree_walk_refused, tree_walked, waiting_free, waiting_refused, with_reader}
use Rattle.swc_base_rename_units.proofs.units.+name_where_read.Goals as goal
use Rattle.swc_base_rename_units.proofs.units.+name_where_read.Goals.{name_each-then-found, name_each-else-found, name_next-then-read-via-then-read, name_next-then-read-via-else-read+then-not-found}

pub name_each-returns-in_err-read-clause-refused :
    goal.name_each-returns-in_err-read-clause-refused
name_each-returns-in_err-read-clause-refused g t c =
    let refused = err_from_is_err_and c.from_residual.result c.from_residual.ensures.1 in
    rw (refused.1, refused.2) (next_refused c.args.reads c.args.nodes c.loop-i.nodes c.replace-node.new.self (slice_set c.replace-node.new.self c.loop-i.i c.replace-node.result) c.loop-i.i Absent c.replace-node.result c.replace-node.result
    c.replace-node.ensures.taken c.replace-node.ensures.list refl (g.A.Alone.refuses c.args.alone.now) c.args.above c.loop-i.found c.is_unit-is_unit.result c.in_err-read.field-0.0
    c.is_unit-is_unit.ensures c.loop-i.invariant.rest c.loop-i.invariant.sound c.in_err-read.ensures.refused)

pub name_each-name_before-requires-clause-free : goal.name_each-name_before-requires-clause-free
name_each-name_before-requires-clause-free g t c =
    subst (AreFreeTo c.set.new.self) (sym c.waiting.ensures) (waiting_free c.args.reads c.args.nodes c.loop-i.nodes c.replace-node.new.self c.set.new.self c.loop-i.i Absent c.replace-node.result c.in_ok-read.node c.replace-node.ensures.taken c.replace-node.ensures.list c.set.ensures
    c.loop-i.found c.in_ok-read.read c.loop-i.invariant.none c.loop-i.invariant.kept)

pub name_each-returns-in_err-name_before-clause-refused :
    goal.name_each-returns-in_err-name_before-clause-refused
name_each-returns-in_err-name_before-clause-refused g t c =
    let refused = err_from_is_err_and c.from_residual-in_err-name_before.result c.from_residual-in_err-name_before.ensures.1 in
    let refuses = g.A.Alone.refuses c.args.alone.now in
    let e = c.in_err-name_before.field-0.0 in
    rw (refused.1, refused.2) (waiting_refused c.args.reads c.args.nodes c.loop-i.nodes c.replace-node.new.self c.set.new.self c.loop-i.i Absent c.replace-node.result c.in_ok-read.node c.replace-node.ensures.taken c.replace-node.ensures.list c.set.ensures
    refuses c.args.above c.loop-i.found c.in_ok-read.read e c.loop-i.invariant.rest c.loop-i.invariant.kept c.in_ok-read.ensures.walked.reads
    (subst (λ n. RefusesBefore refuses c.args.above n c.set.new.self e) c.waiting.ensures c.in_err-name_before.ensures.refused))

pub name_each-loop-i-preserved : goal.name_each-loop-i-preserved
name_each-loop-i-preserved g t c =
    let becomes = g.A.Alone.becomes c.args.alone.now in
    let above = c.args.above in
    let found = c.loop-i.found in
    let read = c.in_ok-read.read in
    let walked = c.in_ok-read.ensures.walked in
    let was = c.loop-i.invariant in
    let ws = c.name_before.new.nodes in
    let named : AreNamedTo becomes above (waiting_to found read c.loop-i.i) c.set.new.self ws = subst (λ n. AreNamedTo becomes above n c.set.new.self ws) c.waiting.ensures c.in_ok-name_before.ensures.named in
    let now : c.if-found.found ≡ (found || read) = elim c.if-found.branch [
      | name_each-then-found w ↦ either_first found read c.if-found.found w.if-found.true w.found-is
      | name_each-else-found w ↦ either_second found read c.if-found.found w.if-found.false w.found-is
    ] in record {
      as_many = named.as_many ∙ put_length c.args.nodes c.loop-i.nodes c.replace-node.new.self c.set.new.self c.loop-i.i Absent c.replace-node.result c.in_ok-read.node
          c.replace-node.ensures.taken c.replace-node.ensures.list c.set.ensures ∙ was.as_many;
      sound = subst (SoundFor c.args.reads c.args.nodes) (sym now) (more_sound c.args.reads c.args.nodes c.loop-i.nodes c.replace-node.new.self c.set.new.self c.loop-i.i Absent c.replace-node.result c.in_ok-read.node c.replace-node.ensures.taken c.replace-node.ensures.list c.set.ensures found read was.rest walked.reads was.sound);
      none = subst (NoneTo c.args.reads c.args.nodes (c.loop-i.i + 1)) (sym now) (more_none c.args.reads c.args.nodes c.loop-i.nodes c.replace-node.new.self c.set.new.self c.loop-i.i Absent c.replace-node.result c.in_ok-read.node c.replace-node.ensures.taken c.replace-node.ensures.list c.set.ensures found read was.rest walked.reads was.none);
      kept = subst (KeptWhere c.args.nodes ws) (sym now) (more_kept c.args.reads c.args.nodes c.loop-i.nodes c.replace-node.new.self c.set.new.self c.loop-i.i Absent c.replace-node.result c.in_ok-read.node c.replace-node.ensures.taken c.replace-node.ensures.list c.set.ensures becomes above ws found read named was.kept walked.kept);
      done = λ f. more_done c.args.reads c.args.nodes c.loop-i.nodes c.replace-node.new.self c.set.new.self c.loop-i.i Absent c.replace-node.result c.in_ok-read.node c.replace-node.ensures.taken c.replace-node.ensures.list c.set.ensures becomes above ws found read c.is_unit-is_unit.result named c.is_unit-is_unit.ensures walked.reads walked.named was.rest was.kept was.done (sym now ∙ f);
      rest = more_same c.args.reads c.args.nodes c.loop-i.nodes c.replace-node.new.self c.set.new.self c.loop-i.i Absent c.replace-node.result c.in_ok-read.node c.replace-node.ensures.taken c.replace-node.ensures.list c.set.ensures becomes above ws found read named was.rest;
    }

pub name_each-returns-clause-walked : goal.name_each-returns-clause-walked
name_each-returns-clause-walked g t c =
    let end : length c.args.nodes ≤ c.loop-i.i = omega (arith, c.len-i-end.ensures) in
    let was = c.loop-i.invariant in
    each_walked (g.A.Alone.becomes c.args.alone.now) c.args.above c.args.reads c.args.nodes c.loop-i.nodes c.loop-i.i c.loop-i.found end was.as_many was.sound was.none was.kept was.done

pub name_next-returns-then-read-clause-walked : goal.name_next-returns-then-read-clause-walked
name_next-returns-then-read-clause-walked g t c =
    let test : (c.in_ok-read.read || not c.args.found) ≡ true = elim c.then-read.branch [
      | name_next-then-read-via-then-read w ↦ with_reader c.in_ok-read.read c.args.found w.if-read.true
      | name_next-then-read-via-else-read+then-not-found w ↦ before_reader c.in_ok-read.read c.args.found w.if-not-found.true
    ] in
    next_walked (g.A.Alone.becomes c.args.alone.now) c.args.found c.args.is_unit c.args.node c.in_ok-read.node c.in_ok-read.read test c.in_ok-read.ensures.walked

pub name_next-returns-in_err-node-clause-refused :
    goal.name_next-returns-in_err-node-clause-refused
name_next-returns-in_err-node-clause-refused g t c =
    let refused = err_from_is_err_and c.from_residual-in_err-node.result c.from_residual-in_err-node.ensures.1 in
    let same = next_kept (g.A.Alone.becomes c.args.alone.now) c.args.node c.in_ok-read.node c.in_ok-read.read c.if-read.false c.in_ok-read.ensures.walked in
    rw (refused.1, refused.2) (inl c.if-not-found.false, subst (λ n. RefusesChild (g.A.Alone.refuses c.args.alone.now) c.args.is_unit n c.in_err-node.field-0.0) same c.in_err-node.ensures.refused)

pub name_next-returns-clause-walked : goal.name_next-returns-clause-walked
name_next-returns-clause-walked g t c =
    next_named (g.A.Alone.becomes c.args.alone.now) c.args.found c.args.is_unit c.args.node c.in_ok-read.node c.in_ok-read.read c.if-read.false c.if-not-found.false c.in_ok-read.ensures.walked c.in_ok-node.node c.in_ok-node.ensures.renamed

pub name_where_read-returns-in_err-found-in-List-clause-refused :
    goal.name_where_read-returns-in_err-found-in-List-clause-refused
name_where_read-returns-in_err-found-in-List-clause-refused g t c =
    let refused = err_from_is_err_and c.from_residual.result c.from_residual.ensures.1 in
    rw (refused.1, refused.2) (list_walk_refused (g.A.Alone.refuses c.args.alone.now) c.args.node c.in-List.items c.in_err-found-in-List.field-0.0 c.in-List.is c.in_err-found-in-List.ensures.refused)

pub name_where_read-returns-in_err-found-in-Tree-clause-refused :
    goal.name_where_read-returns-in_err-found-in-Tree-clause-refused
name_where_read-returns-in_err-found-in-Tree-clause-refused g t c =
    let refused = err_from_is_err_and c.from_residual-in_err-found-in-Tree.result c.from_residual-in_err-found-in-Tree.ensures.1 in
    rw (refused.1, refused.2) (tree_walk_refused (g.A.Alone.refuses c.args.alone.now) c.args.node c.in-Tree.kind c.in-Tree.fields c.as_slice.result.now c.reads_names-reads.result c.in_err-found-in-Tree.field-0.0
    c.in-Tree.is c.as_slice.ensures c.reads_names-reads.ensures c.in_err-found-in-Tree.ensures.refused)

pub name_where_read-returns-in_ok-found-in-List-clause-walked :
    goal.name_where_read-returns-in_ok-found-in-List-clause-walked
name_where_read-returns-in_ok-found-in-List-clause-walked g t c =
    list_walked (g.A.Alone.becomes c.args.alone.now) c.args.node c.in-List.items c.in_ok-found-in-List.items c.in_ok-found-in-List.found c.in-List.is c.in_ok-found-in-List.ensures.walked

pub name_where_read-returns-in_ok-found-in-Tree-clause-walked :
    goal.name_where_read-returns-in_ok-found-in-Tree-clause-walked
name_where_read-returns-in_ok-found-in-Tree-clause-walked g t c =
    tree_walked (g.A.Alone.becomes c.args.alone.now) c.args.node c.in-Tree.kind c.in-Tree.fields c.as_slice.result.now c.in_ok-found-in-Tree.fields c.reads_names-reads.result c.in_ok-found-in-Tree.found
    c.in-Tree.is c.as_slice.ensures c.reads_names-reads.ensures c.in_ok-found-in-Tree.ensures.walked

pub name_where_read-returns-in_default : goal.name_where_read-returns-in_default
name_where_read-returns-in_default g t c = record {
  walked = leaf_walked (g.A.Alone.becomes c.args.alone.now) c.args.node c.in_default.not-List c.in_default.not-Tree;
  refused = tt;
}
