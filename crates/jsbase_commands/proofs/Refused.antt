-- A command that takes the types of a tree is refused for its own causes.
use Rattle.std.proofs.Common.{◌≡◌, ◌⊎◌, false, inl, inr, subst}
use Rattle.swc_tree_marks.specs.declared.error.PassError.{PassError}
use Rattle.swc_tree_marks.specs.declared.error.PassError.TheVariants as refusal
use Rattle.jsbase_reader.specs.declared.envelope.Envelope.{Envelope}
use Rattle.jsbase_commands.specs.declared.arguments.Command.{Command}
use Rattle.jsbase_commands.specs.declared.arguments.Command.TheVariants as command
use Rattle.jsbase_commands.specs.Run.{IsCauseOf, IsCausedFor, IsRefusalOf, IsRefusedFor, refuses_types}

never_types : (c : Command) (envelope : Envelope) → IsCauseOf c envelope refusal.TypesLeft → ⊥
never_types command.Resolve envelope h = h
never_types command.Hygiene envelope h = h
never_types command.Unparen envelope h = h
never_types command.Fix envelope h = h
never_types command.Chain envelope h = h
never_types command.Mangle envelope h = h
never_types command.Covers envelope h = h
never_types command.Judge envelope h = h

for_cause : (c : Command) (envelope : Envelope) → refuses_types c envelope ≡ false → (e : PassError) → IsCauseOf c envelope e → IsRefusalOf c envelope e
for_cause c envelope none refusal.TypesLeft h = absurd (never_types c envelope h)
for_cause c envelope none refusal.NoMemory h = (none, h)
for_cause c envelope none refusal.MarksSpent h = (none, h)
for_cause c envelope none refusal.CounterSpent h = (none, h)
for_cause c envelope none refusal.NotAssignable h = (none, h)

pub refused_typeless : (c : Command) (envelope : Envelope) → refuses_types c envelope ≡ false → (e : PassError) → IsCausedFor c envelope e → IsRefusedFor c envelope e
refused_typeless c envelope none e (inl memory) = inl memory
refused_typeless c envelope none e (inr cause) = inr (for_cause c envelope none e cause)
