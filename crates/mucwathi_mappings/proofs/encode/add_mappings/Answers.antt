use Rattle.std.proofs.Common.{◌≡◌, ◌≤◌, rules, map, sym, ap, ◌∙◌, subst}
use Rattle.std.proofs.lemmas.Map.Iter.{iter_end}
use Rattle.std.specs.Map.Iter.{deref_pair}
use Rattle.mucwathi_mappings.specs.declared.encode.Entry.{Entry}
use Rattle.mucwathi_mappings.proofs.Placing.{reached, reaches_none, reaches_step}
use Rattle.mucwathi_mappings.proofs.Telling.{tells_all, tells_none, tells_step}
use Rattle.mucwathi_mappings.proofs.encode.add_mappings.Goals as goal

pub loop-place-init : goal.loop-place-init
loop-place-init c = record {
  told_so_far = tells_none c.args.sides.now.read.now c.args.sides.now.written.now c.new-names.result c.args.out.now.items c.new-names.ensures.numbered c.new-names.ensures.none;
  reaches = reaches_none c.args.sides.now.written.now;
}

pub number_of-requires : goal.number_of-requires
number_of-requires c = c.loop-place.invariant.told_so_far.numbered

pub add_behind-requires : goal.add_behind-requires
add_behind-requires c =
    let given = c.into_iter-place-iterator.ensures.into_iter_gives in
    subst (λ n. c.loop-place.told.line ≤ n) (sym (ap (λ (e : Entry). e.line) c.entry_at-entry.ensures))
    (reached c.args.sides.now.written.now c.args.places.now c.loop-place.yielded c.into_iter-place-iterator.result c.loop-place.place-iterator c.next.new.self c.next.result (c.in-Some.place, c.in-Some.node) c.loop-place.told.line given.0 given.5
    c.loop-place.yielded_by c.in-Some.is c.next.ensures.steps c.loop-place.invariant.reaches)

pub loop-place-preserved : goal.loop-place-preserved
loop-place-preserved c = record {
  told_so_far = tells_step c.args.sides.now.read.now c.args.sides.now.written.now c.loop-place.yielded (c.in-Some.place, c.in-Some.node) c.loop-place.names c.number_of.new.names c.in_ok-name.name c.entry_at-entry.result c.loop-place.told c.in_ok-told.told
      c.args.out.now.items c.loop-place.out.items c.add_behind.new.out.items c.loop-place.invariant.told_so_far c.in_ok-name.ensures c.entry_at-entry.ensures c.in_ok-told.ensures.0;
  reaches = reaches_step c.args.sides.now.written.now c.loop-place.yielded (c.in-Some.place, c.in-Some.node) c.in_ok-told.told.line (c.in_ok-told.ensures.1 ∙ ap (λ (e : Entry). e.line) c.entry_at-entry.ensures);
}

pub returns : goal.returns
returns c =
    let all : map deref_pair c.loop-place.yielded ≡ c.args.places.now.entries = search (rules, iter_end) in
    tells_all c.args.sides.now.read.now c.args.sides.now.written.now c.loop-place.yielded c.args.places.now c.loop-place.names c.loop-place.told c.args.out.now.items c.loop-place.out.items all c.into_iter-place-iterator.ensures.into_iter_gives.5
    c.loop-place.invariant.told_so_far
