use Rattle.std.proofs.Common.{sym, ap, ◌∙◌}
use Rattle.swc_base_writable_rules.specs.Asks.{meets as meets_sound}
use Rattle.swc_base_writable_rules.specs.Judged.{sounds}
use Rattle.text_derives.specs.Asks.{meets as meets_derived}
use Rattle.text_derives.specs.Judged.{derived}
use Rattle.text_checks.specs.Words.{fits, meets as meets_words}
use Rattle.text_checks.proofs.walk.asked_at.Goals as goal

pub returns : goal.returns
returns c so =
    let node = c.args.node.now in record {
      writing = ap (λ a. meets_sound a node (sounds node)) (sym c.at.ensures) ∙ sym (c.look_at.ensures (sounds node)) ∙ so.writing;
      grammar = ap (λ a. meets_derived a node (derived node)) (sym c.at-2.ensures) ∙ sym (c.look_at-2.ensures (derived node)) ∙ so.grammar;
      words = ap (λ a. meets_words a (fits node)) (sym c.ask_at.ensures) ∙ so.words;
    }
