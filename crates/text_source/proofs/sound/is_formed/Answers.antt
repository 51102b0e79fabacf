use Rattle.text_source.proofs.sound.is_formed.Goals as goal

pub returns-clause-formed : goal.returns-clause-formed
returns-clause-formed c held = record {
  fits = c.is_sound.ensures.fits c.if-not-is_sound.false;
  shaped = c.is_sound.ensures.shaped c.if-not-is_sound.false;
  spelled = c.is_sound.ensures.spelled c.if-not-is_sound.false;
  derived = c.is_program.ensures.derived held;
}
