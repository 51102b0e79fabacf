use Rattle.text_source.proofs.sound.keeps_rules.Goals as goal

pub returns-clause-pinned : goal.returns-clause-pinned
returns-clause-pinned c held = record {
  straight = c.requires.straight;
  worded = c.keeps_all_rules.ensures.worded held;
  writable = λ none. c.keeps_all_rules.ensures.writable held c.args.slot c.requires.fits;
}
