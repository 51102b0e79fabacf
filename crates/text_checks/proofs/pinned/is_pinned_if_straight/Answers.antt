use Rattle.text_checks.proofs.Steps.{lax_or_not, unworded, written}
use Rattle.text_checks.proofs.pinned.is_pinned_if_straight.Goals as goal

pub returns-then-not-has_its_words : goal.returns-then-not-has_its_words
returns-then-not-has_its_words c straight s fits = unworded c.args.tree.now c.has_its_words.result c.has_its_words.ensures c.if-not-has_its_words.true

pub returns-then-can_be_written : goal.returns-then-can_be_written
returns-then-can_be_written c straight s fits =
    written c.args.tree.now c.has_its_words.result c.has_its_words.ensures straight c.if-not-has_its_words.false
    c.can_be_written.result (c.can_be_written.ensures s fits) c.if-can_be_written.true

pub returns-else-can_be_written : goal.returns-else-can_be_written
returns-else-can_be_written c straight s fits =
    lax_or_not c.args.tree.now c.has_its_words.result c.has_its_words.ensures straight c.if-not-has_its_words.false
    c.can_be_written.result c.has_lax.result (c.can_be_written.ensures s fits) c.has_lax.ensures c.if-can_be_written.false
