use Rattle.std.proofs.Common.{refl}
use Rattle.swc_base_normal_form.proofs.Fields.{field_written}
use Rattle.swc_base_normal_form.proofs.forms.write_fields.Goals as goal

pub returns-in_ok-write_form-in-Some : goal.returns-in_ok-write_form-in-Some
returns-in_ok-write_form-in-Some c =
    field_written c.args.kind c.args.fields.now c.as_slice-2.result.now _ c.in-Some.index c.in-Some.form c.item_mut.result.now c.write_form.new.node c.as_slice-2.ensures c.in-Some.ensures.field c.item_mut.ensures.value
    c.in_ok-write_form-in-Some.ensures refl
