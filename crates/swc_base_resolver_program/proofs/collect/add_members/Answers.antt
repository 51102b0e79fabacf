use Rattle.std.proofs.Common.{◌≡◌, length, arith, refl, subst}
use Rattle.std.proofs.lemmas.Option.{slice_get_read}
use Rattle.swc_base_resolver_program.specs.Walks.{Gains, HasMembers}
use Rattle.swc_base_resolver_program.proofs.Gathered.{gains_none, member_gains, no_members_yet}
use Rattle.swc_base_resolver_program.proofs.collect.add_members.Goals as goal

pub loop-i-init : goal.loop-i-init
loop-i-init c = record { size = refl; tables = gains_none c.args.tables.now.items (HasMembers c.args.number c.args.members.now 0) (no_members_yet c.args.number c.args.members.now) }

pub loop-i-preserved : goal.loop-i-preserved
loop-i-preserved c =
    let here = slice_get_read c.args.members.now _ c.loop-i.i c.index-members-i.result refl (omega arith) c.index-members-i.is in
    record {
      size = omega (arith, c.loop-i.invariant.size, c.in_ok-add_member.ensures.size);
      tables = member_gains c.args.number c.args.members.now c.loop-i.i c.index-members-i.result here c.args.tables.now.items c.loop-i.tables.items _ c.loop-i.invariant.tables c.in_ok-add_member.ensures.tables;
    }

pub returns-clause-tables : goal.returns-clause-tables
returns-clause-tables c =
    let ended : c.loop-i.i ≡ length c.args.members.now = omega arith in
    subst (λ m. Gains c.args.tables.now.items c.loop-i.tables.items (HasMembers c.args.number c.args.members.now m)) ended c.loop-i.invariant.tables
