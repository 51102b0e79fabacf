use Rattle.std.proofs.Common.{inl, inr, refl, sym, ◌∙◌}
use Rattle.swc_base_covers.proofs.Contexts.{clean_without, unclean_with}
use Rattle.swc_base_covers.proofs.Decided.{untrue}
use Rattle.swc_base_covers.proofs.causes.tree_cause.Goals as goal

pub returns-then-has_types : goal.returns-then-has_types
returns-then-has_types c = λ place fits. inl (untrue _ (sym c.has_types.ensures ∙ c.if-has_types.true), refl)

pub returns-then-has_node : goal.returns-then-has_node
returns-then-has_node c = λ place fits.
    inr (sym c.has_types.ensures ∙ c.if-has_types.false, inl (unclean_with c.args.program.now (c.has_node.ensures.0 c.if-has_node.true), refl))

pub returns-then-not-is_writable : goal.returns-then-not-is_writable
returns-then-not-is_writable c = λ place fits.
    inr (
      sym c.has_types.ensures ∙ c.if-has_types.false,
      inr (
        clean_without c.args.program.now (λ h. untrue _ (c.has_node.ensures.1 h) c.if-has_node.false),
        inl (λ h. untrue _ (c.is_writable.ensures place fits ∙ h) c.if-not-is_writable.true, refl),
      ),
    )

pub returns-then-config : goal.returns-then-config
returns-then-config c = λ place fits.
    inr (
      sym c.has_types.ensures ∙ c.if-has_types.false,
      inr (
        clean_without c.args.program.now (λ h. untrue _ (c.has_node.ensures.1 h) c.if-has_node.false),
        inr (
          sym (c.is_writable.ensures place fits) ∙ c.if-not-is_writable.false,
          inl (untrue _ c.if-config.true, refl),
        ),
      ),
    )

pub returns-then-is_read : goal.returns-then-is_read
returns-then-is_read c = λ place fits.
    inr (
      sym c.has_types.ensures ∙ c.if-has_types.false,
      inr (
        clean_without c.args.program.now (λ h. untrue _ (c.has_node.ensures.1 h) c.if-has_node.false),
        inr (
          sym (c.is_writable.ensures place fits) ∙ c.if-not-is_writable.false,
          inr (
            c.if-config.false,
            inl (λ unread. unread (c.is_read.ensures.0 c.if-is_read.true), refl),
          ),
        ),
      ),
    )

pub returns : goal.returns
returns c = λ place fits. (
  sym c.has_types.ensures ∙ c.if-has_types.false,
  (
    clean_without c.args.program.now (λ h. untrue _ (c.has_node.ensures.1 h) c.if-has_node.false),
    (
      sym (c.is_writable.ensures place fits) ∙ c.if-not-is_writable.false,
      (
        c.if-config.false,
        (λ read. untrue _ (c.is_read.ensures.1 read) c.if-is_read.false, tt),
      ),
    ),
  ),
)
