use Rattle.text_source.proofs.Contexts.{clean_without}
use Rattle.text_source.proofs.Formed.{among_fifth, among_first, among_fourth, among_second, among_third}
use Rattle.text_source.proofs.sound.is_sound.Goals as goal

pub returns-clause-shaped : goal.returns-clause-shaped
returns-clause-shaped c held found = c.fits_without.ensures.none held (among_first c.args.text.now c.args.tree.now found)

pub returns-clause-spelled : goal.returns-clause-spelled
returns-clause-spelled c held found = c.fits_without.ensures.none held (among_second c.args.text.now c.args.tree.now found)

pub returns-clause-leaves : goal.returns-clause-leaves
returns-clause-leaves c held found = c.fits_without.ensures.none held (among_third c.args.text.now c.args.tree.now found)

pub returns-clause-straight : goal.returns-clause-straight
returns-clause-straight c held found = c.fits_without.ensures.none held (among_fourth c.args.text.now c.args.tree.now found)

pub returns-clause-clean : goal.returns-clause-clean
returns-clause-clean c held = clean_without c.args.tree.now (λ found. c.fits_without.ensures.none held (among_fifth c.args.text.now c.args.tree.now found))
