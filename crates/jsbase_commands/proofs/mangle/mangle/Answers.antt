use Rattle.std.proofs.Common.{◌≡◌, ◌⊎◌, Bool, true, false, inl, inr, ⊎_elim, refl, sym, ap, ◌∙◌, subst}
use Rattle.std.proofs.lemmas.Result.{err_from_is_err_and}
use Rattle.swc_tree_marks.specs.declared.error.PassError.{PassError}
use Rattle.swc_tree_marks.specs.declared.error.PassError.TheVariants as refusal
use Rattle.swc_tree_marks.specs.Globals.{Table}
use Rattle.swc_tree_node.specs.declared.node.Node.{Node}
use Rattle.swc_tree_grammar.specs.Targets.{all_bare}
use Rattle.jsbase_reader.specs.declared.envelope.Envelope.{Envelope}
use Rattle.jsbase_writer.specs.Envelopes.{envelope_text}
use Rattle.swc_base_rename_substitution.specs.declared.config.Config.{Config}
use Rattle.swc_base_mangle.specs.Mangled.{IsMangleRefusal, IsMangled}
use Rattle.jsbase_commands.specs.declared.arguments.Command.TheVariants as command
use Rattle.jsbase_commands.specs.Run.{IsCauseOf, IsCausedFor, IsMangledWith, ResolvesTo, config_of, keeps_top_of}
use Rattle.jsbase_commands.proofs.mangle.mangle.Goals as goal

true_unless : (b : Bool) → (b ≡ false → ⊥) → b ≡ true
true_unless true h = refl
true_unless false h = absurd (h refl)

-- the fixer is refused for a target, or for want of memory
refused_for : (envelope : Envelope) (table : Table) (mangled : Node) (e : PassError) → IsMangledWith envelope table mangled → (e ≡ refusal.NotAssignable → all_bare mangled ≡ false)
    → (e ≡ refusal.NotAssignable) ⊎ (e ≡ refusal.NoMemory) → IsCausedFor command.Mangle envelope e
refused_for envelope table mangled e is bare = ⊎_elim (λ (why : e ≡ refusal.NotAssignable). inr (subst (IsCauseOf command.Mangle envelope) (sym why) (table, mangled, is, bare why))) inl

-- mangling is refused for its counters, or for want of memory
spent_for : (envelope : Envelope) (table : Table) (resolved : Node) → ResolvesTo envelope table resolved → (e : PassError)
    → IsMangleRefusal table (config_of envelope) (keeps_top_of envelope) resolved e → IsCausedFor command.Mangle envelope e
spent_for envelope table resolved is refusal.NoMemory h = inl refl
spent_for envelope table resolved is refusal.CounterSpent h = inr (table, resolved, is, h)
spent_for envelope table resolved is refusal.MarksSpent (inl same) = absurd (cc)
spent_for envelope table resolved is refusal.MarksSpent (inr (none, (texts, h))) = absurd h
spent_for envelope table resolved is refusal.NotAssignable (inl same) = absurd (cc)
spent_for envelope table resolved is refusal.NotAssignable (inr (none, (texts, h))) = absurd h
spent_for envelope table resolved is refusal.TypesLeft (inl same) = absurd (cc)
spent_for envelope table resolved is refusal.TypesLeft (inr (none, (texts, h))) = absurd h

pub returns-in_err-mangled : goal.returns-in_err-mangled
returns-in_err-mangled c =
    let table = c.resolve_program.new.globals in
    let marked = c.in_ok-marked.marked in
    let e = c.in_err-mangled.field-0.0 in
    let resolved = c.in_ok-marked.ensures.resolved c.requires.program c.requires.marks in
    let refused = err_from_is_err_and c.from_residual-in_err-mangled.result c.from_residual-in_err-mangled.ensures.1 in
    let by_config = subst (λ config. IsMangleRefusal table config c.keeps_top-keeps.result marked e) c.config-config.ensures c.in_err-mangled.ensures.refused in
    rw (refused.1, refused.2) (spent_for c.args.envelope table marked resolved e (subst (λ keeps. IsMangleRefusal table (config_of c.args.envelope) keeps marked e) c.keeps_top-keeps.ensures by_config))

pub returns-in_err-fixed : goal.returns-in_err-fixed
returns-in_err-fixed c =
    let table = c.resolve_program.new.globals in
    let marked = c.in_ok-marked.marked in
    let mangled = c.in_ok-mangled.mangled in
    let by_config = subst (λ config. IsMangled table config c.keeps_top-keeps.result marked mangled) c.config-config.ensures c.in_ok-mangled.ensures.mangled in
    let is_mangled : IsMangledWith c.args.envelope table mangled = record {
      between = marked;
      resolved = c.in_ok-marked.ensures.resolved c.requires.program c.requires.marks;
      short = subst (λ keeps. IsMangled table (config_of c.args.envelope) keeps marked mangled) c.keeps_top-keeps.ensures by_config;
    } in
    let refused = err_from_is_err_and c.from_residual-in_err-fixed.result c.from_residual-in_err-fixed.ensures.1 in
    rw (refused.1, refused.2) (refused_for c.args.envelope table mangled c.in_err-fixed.field-0.0 is_mangled c.in_err-fixed.ensures.not_assignable.0 c.in_err-fixed.ensures.no_memory)

pub returns : goal.returns
returns c =
    let table = c.resolve_program.new.globals in
    let marked = c.in_ok-marked.marked in
    let mangled = c.in_ok-mangled.mangled in
    let by_config = subst (λ config. IsMangled table config c.keeps_top-keeps.result marked mangled) c.config-config.ensures c.in_ok-mangled.ensures.mangled in
    record {
      no_types = c.requires.types;
      table = table;
      mangled = mangled;
      is_mangled = record {
        between = marked;
        resolved = c.in_ok-marked.ensures.resolved c.requires.program c.requires.marks;
        short = subst (λ keeps. IsMangled table (config_of c.args.envelope) keeps marked mangled) c.keeps_top-keeps.ensures by_config;
      };
      assignable = true_unless (all_bare mangled) c.in_ok-fixed.ensures.not_assignable.1;
      well_formed = c.in_ok-text.ensures.well_formed;
      written = c.in_ok-text.ensures.text ∙ ap (λ t. envelope_text table c.args.envelope.top t c.args.envelope.unresolved) c.in_ok-fixed.ensures.answer;
    }
