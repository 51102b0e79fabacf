use Rattle.std.proofs.Common.{inl, inr, refl, subst}
use Rattle.std.proofs.lemmas.Result.{MatchResult-weaker}
use Rattle.text_source.specs.Texts.{SpansAreOf}
use Rattle.mucwathi_commands.specs.Written.{IsReadAs}
use Rattle.mucwathi_looks.proofs.Writing.{behind_those, none_marked}
use Rattle.mucwathi_looks.proofs.write.with_marks.Goals as goal

pub returns-then-not-any_is_marked : goal.returns-then-not-any_is_marked
returns-then-not-any_is_marked c = inl (none_marked c.args.tree.now c.in_ok-found.found.items c.as_slice-names.result.now c.any_is_marked.result c.as_slice-names.ensures.value c.in_ok-found.ensures.all c.any_is_marked.ensures c.if-not-any_is_marked.true, refl)

pub returns-in-Ok : goal.returns-in-Ok
returns-in-Ok c =
    MatchResult-weaker c.mark_behind.result c.mark_behind.ensures
    (λ out h. inr (record {
      again = c.in-Ok.again;
      read = subst (λ l. IsReadAs c.args.goal c.in-Ok.again l) c.as_slice.ensures.value (c.in-Ok.ensures.tree, c.in-Ok.ensures.formed, c.in-Ok.ensures.pinned, c.in-Ok.ensures.clean);
      stands = subst (λ l. SpansAreOf c.args.goal c.in-Ok.again l) c.as_slice.ensures.value c.in-Ok.ensures.spans;
      behind = behind_those c.args.tree.now c.in_ok-found.found.items c.as_slice-names.result.now c.in-Ok.again c.as_slice-in-Ok.result.now c.args.plain.items out.items c.as_slice-names.ensures.value c.in_ok-found.ensures.all c.as_slice-in-Ok.ensures.value h;
    })) (λ f h. h)
