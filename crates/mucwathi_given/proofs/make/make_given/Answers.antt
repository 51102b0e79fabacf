use Rattle.std.proofs.Common.{None, inl, refl, subst, sym, ◌∙◌}
use Rattle.std.specs.Result.{IfErr, IfOk}
use Rattle.mucwathi_given.specs.Given.{IsMade, IsReady}
use Rattle.mucwathi_given.specs.Refusals.{IsUnmade}
use Rattle.swc_tree_marks.specs.declared.error.PassError.TheVariants as refusal
use Rattle.mucwathi_given.proofs.Making.{is_made}
use Rattle.mucwathi_given.proofs.Refused.{unmade}
use Rattle.mucwathi_given.proofs.make.make_given.Goals as goal

pub returns-in-None-clause-made : goal.returns-in-None-clause-made
returns-in-None-clause-made c =
    subst (λ k. IsReady c.args.given → IfOk c.resolve.result (IsMade k c.args.given)) (sym c.in-None.is) (λ ready. is_made None c.args.given c.resolve.result c.resolve.ensures.around (c.resolve.ensures.made ready))

pub returns-in-None-clause-refused : goal.returns-in-None-clause-refused
returns-in-None-clause-refused c = λ ready. subst (λ k. IfErr c.resolve.result (IsUnmade k c.args.given)) (sym c.in-None.is) c.resolve.ensures.refused

pub returns-then-has_types-clause-refused : goal.returns-then-has_types-clause-refused
returns-then-has_types-clause-refused c = λ ready. subst (λ k. IsUnmade k c.args.given refusal.TypesLeft) (sym c.in-Some.is) (inl (refl, sym c.has_types.ensures ∙ c.if-has_types.true))

pub returns-else-has_types-clause-made : goal.returns-else-has_types-clause-made
returns-else-has_types-clause-made c = subst (λ k. IsReady c.args.given → IfOk c.make.result (IsMade k c.args.given)) (sym c.in-Some.is) c.make.ensures.made

pub returns-else-has_types-clause-refused : goal.returns-else-has_types-clause-refused
returns-else-has_types-clause-refused c = unmade c.args.command c.in-Some.command c.args.given c.make.result c.in-Some.is (sym c.has_types.ensures ∙ c.if-has_types.false) c.make.ensures.refused
