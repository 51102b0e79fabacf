use Rattle.std.proofs.Common.{subst, sym}
use Rattle.swc_tree_node.specs.declared.slot.Content.TheVariants as content
use Rattle.swc_tree_node.specs.declared.slot.Slot.TheVariants as slot
use Rattle.swc_base_covers.specs.Covered.{Tells}
use Rattle.mucwathi_order.specs.Lower.text_source.specs.Texts.{class_of}
use Rattle.mucwathi_passes.specs.Passes.{config_of}
use Rattle.mucwathi_commands.specs.Looks.{TellsCause}
use Rattle.mucwathi_commands.proofs.Covered.{cause_told}
use Rattle.mucwathi_order.proofs.Programs.{is_program}
use Rattle.mucwathi_commands.proofs.cover.cover.Goals as goal

pub returns-in-Ok : goal.returns-in-Ok
returns-in-Ok c =
    let told = c.in-Ok.ensures.told (slot.One (content.Node (class_of c.args.goal))) (is_program c.args.goal) c.requires.0.fits in
    let same = subst (λ config. Tells config c.args.source.now c.in-Ok.gap) c.config_of.ensures told in
    record {
      source = c.args.source.now;
      read = c.requires;
      tells = subst (TellsCause (config_of c.args.settings.now) c.args.source.now) (sym c.gap_of.ensures.cause) (cause_told (config_of c.args.settings.now) c.args.source.now c.in-Ok.gap same);
      place = c.gap_of.ensures.place c.in-Ok.ensures.path;
    }

pub returns-in-Err : goal.returns-in-Err
returns-in-Err c = c.in-Err.ensures.refusal
