use Rattle.std.proofs.Common.{◌≡◌, rules, arith, length, vec_len, refl, sym, ap, ◌∙◌}
use Rattle.std.proofs.lemmas.Option.{slice_get_read}
use Rattle.swc_base_rename_analysis.specs.Numbers.{id_met, known_ids, number_in, seen_in}
use Rattle.swc_base_rename_analysis.specs.Walk.{met_of}
use Rattle.swc_base_rename_analysis.proofs.Numbered.{impossible, number_there, numbers_stay, seen_at}
use Rattle.swc_base_rename_analysis.proofs.numbers.Entries.meet.Goals as goal

pub returns-in_ok-see-clause-table : goal.returns-in_ok-see-clause-table
returns-in_ok-see-clause-table c =
    let (is, here, _, within, _) = c.in-Some.ensures.item in
    let got = slice_get_read c.number.new.self.entries.items _ c.in_ok-number.number c.in-Some.entry.now refl within.0 here in
    let changed = seen_at c.args.position (met_of c.args.name.now) c.number.new.self.entries.items c.in_ok-number.number c.in-Some.entry.now c.see.new.self c.in_ok-number.ensures.number got c.in_ok-see.ensures in
    λ x. c.in_ok-number.ensures.table x ∙ sym (ap (λ l. number_in l x) changed ∙ numbers_stay c.args.position (met_of c.args.name.now) (known_ids c.number.new.self) x)

pub returns-in_ok-see-clause-ids : goal.returns-in_ok-see-clause-ids
returns-in_ok-see-clause-ids c =
    let (is, here, _, within, _) = c.in-Some.ensures.item in
    let got = slice_get_read c.number.new.self.entries.items _ c.in_ok-number.number c.in-Some.entry.now refl within.0 here in
    let changed = seen_at c.args.position (met_of c.args.name.now) c.number.new.self.entries.items c.in_ok-number.number c.in-Some.entry.now c.see.new.self c.in_ok-number.ensures.number got c.in_ok-see.ensures in
    changed ∙ ap (seen_in c.args.position (met_of c.args.name.now)) c.in_ok-number.ensures.ids

pub returns-in_ok-see-clause-number : goal.returns-in_ok-see-clause-number
returns-in_ok-see-clause-number c =
    let (is, here, _, within, _) = c.in-Some.ensures.item in
    let got = slice_get_read c.number.new.self.entries.items _ c.in_ok-number.number c.in-Some.entry.now refl within.0 here in
    let changed = seen_at c.args.position (met_of c.args.name.now) c.number.new.self.entries.items c.in_ok-number.number c.in-Some.entry.now c.see.new.self c.in_ok-number.ensures.number got c.in_ok-see.ensures in
    let id = id_met (met_of c.args.name.now) in
    c.in_ok-number.ensures.number ∙ sym (ap (λ l. number_in l id) changed ∙ numbers_stay c.args.position (met_of c.args.name.now) (known_ids c.number.new.self) id)

-- the number is that of an entry
pub returns-in_default-clause-ids : goal.returns-in_default-clause-ids
returns-in_default-clause-ids c =
    let within = number_there c.number.new.self.entries.items (id_met (met_of c.args.name.now)) c.in_ok-number.number c.in_ok-number.ensures.number in
    let size : vec_len c.number.new.self.entries ≡ length c.number.new.self.entries.items = search rules in
    impossible (c.in_default.ensures.variant.1 (omega (arith, within, size)))
