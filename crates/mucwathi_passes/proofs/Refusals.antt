-- Why the passes may be refused.
use Rattle.std.proofs.Common.{◌≡◌, ◌⊎◌, ◌<◌, ◌+◌, ◌-◌, Bool, true, false, inl, inr, refl, sym, ap, subst, Result, Ok, Err, IfErr, IsErrOf}
use Rattle.swc_tree_marks.specs.Globals.{Table, greatest}
use Rattle.swc_tree_marks.specs.declared.error.PassError.{PassError}
use Rattle.swc_tree_marks.specs.declared.error.PassError.TheVariants as refusal
use Rattle.swc_tree_node.specs.declared.node.Node.{Node}
use Rattle.swc_tree_scoping.specs.Places.{program_place}
use Rattle.swc_tree_scoping.specs.Scopes.{scope_count}
use Rattle.swc_tree_spaces.specs.Spaces.{has_types}
use Rattle.swc_tree_grammar.specs.Targets.{all_bare}
use Rattle.swc_base_mangle.specs.Mangled.{IsMangleRefusal}
use Rattle.swc_base_mangle.specs.Lower.swc_base_rename_program.specs.Renamed.{IsRenameRefusal, hygiene_renaming}
use Rattle.swc_base_resolver_program.specs.Marked.{IsRefusal as IsResolveRefusal}
use Rattle.mucwathi_settings.specs.declared.command.Command.{Command}
use Rattle.mucwathi_settings.specs.declared.command.Command.TheVariants as command
use Rattle.mucwathi_settings.specs.declared.command.Settings.{Settings}
use Rattle.mucwathi_passes.specs.Passes.{IsApart, IsApartRefusal, IsCauseOf, IsPairRefusal, IsRefusal, IsRefusedInTurn, IsResolved, IsShort, IsShortRefusal, TakesTooManyMarks, config_of, own_table}

-- the resolver is refused for want of memory or of marks
abbrev pub IsUnresolved : Node → PassError → Type 0
IsUnresolved t e = (e ≡ refusal.NoMemory) ⊎ ((e ≡ refusal.MarksSpent) × TakesTooManyMarks t)

pub unresolved_for : (t : Node) (old : Table) (r : Result Node PassError) → old ≡ own_table → IfErr r IsResolveRefusal → (IsErrOf r refusal.MarksSpent → 4294967295 < greatest old + (scope_count program_place t - 1)) → IfErr r (IsUnresolved t)
unresolved_for t old (Ok u) is refused spent = tt
unresolved_for t old (Err e) is (inl none) spent = inl none
unresolved_for t old (Err e) is (inr marks) spent =
    inr (marks, subst (λ old. 4294967295 < greatest old + (scope_count program_place t - 1)) is (spent (ap (λ e. Err e) marks)))

pub apart_unresolved : (s : Settings) (t : Node) (e : PassError) → IsUnresolved t e → IsApartRefusal s t e
apart_unresolved s t e (inl none) = subst (IsApartRefusal s t) (sym none) tt
apart_unresolved s t e (inr (marks, many)) = subst (IsApartRefusal s t) (sym marks) many

pub short_unresolved : (s : Settings) (t : Node) (e : PassError) → IsUnresolved t e → IsShortRefusal s t e
short_unresolved s t e (inl none) = subst (IsShortRefusal s t) (sym none) tt
short_unresolved s t e (inr (marks, many)) = subst (IsShortRefusal s t) (sym marks) many

pub apart_refused : (s : Settings) (t : Node) (table : Table) (resolved : Node) → IsResolved t table resolved → (e : PassError) → IsRenameRefusal table (config_of s) hygiene_renaming resolved e → IsApartRefusal s t e
apart_refused s t table resolved is refusal.NoMemory h = tt
apart_refused s t table resolved is refusal.CounterSpent h = (table, resolved, is, h)
apart_refused s t table resolved is refusal.MarksSpent h = absurd h
apart_refused s t table resolved is refusal.NotAssignable h = absurd h
apart_refused s t table resolved is refusal.TypesLeft h = absurd h

pub short_refused : (s : Settings) (t : Node) (table : Table) (resolved : Node) → IsResolved t table resolved → (e : PassError) → IsMangleRefusal table (config_of s) s.keep_top resolved e → IsShortRefusal s t e
short_refused s t table resolved is refusal.NoMemory h = tt
short_refused s t table resolved is refusal.CounterSpent h = (table, resolved, is, h)
short_refused s t table resolved is refusal.MarksSpent (inl same) = absurd (cc)
short_refused s t table resolved is refusal.MarksSpent (inr (none, (texts, h))) = absurd h
short_refused s t table resolved is refusal.NotAssignable (inl same) = absurd (cc)
short_refused s t table resolved is refusal.NotAssignable (inr (none, (texts, h))) = absurd h
short_refused s t table resolved is refusal.TypesLeft (inl same) = absurd (cc)
short_refused s t table resolved is refusal.TypesLeft (inr (none, (texts, h))) = absurd h

pub pair_refused : (t : Node) (e : PassError) → (e ≡ refusal.NotAssignable → all_bare t ≡ false) → (e ≡ refusal.NotAssignable) ⊎ (e ≡ refusal.NoMemory) → IsPairRefusal t e
pair_refused t e bare (inl why) = subst (IsPairRefusal t) (sym why) (bare why)
pair_refused t e bare (inr none) = subst (IsPairRefusal t) (sym none) tt

pub true_unless : (b : Bool) → (b ≡ false → ⊥) → b ≡ true
true_unless true h = refl
true_unless false h = absurd (h refl)

-- what renames is refused, or what sets parentheses then
module _ (IsRefused : Node → PassError → Type 0) (IsRenamed : Node → Node → Type 0) (never : (t : Node) → IsRefused t refusal.NotAssignable → ⊥) (free : (t : Node) → IsRefused t refusal.NoMemory) where
  first_refused : (t : Node) (e : PassError) → IsRefused t e → IsRefusedInTurn IsRefused IsRenamed t e
  first_refused t refusal.NoMemory h = h
  first_refused t refusal.CounterSpent h = h
  first_refused t refusal.MarksSpent h = h
  first_refused t refusal.NotAssignable h = absurd (never t h)
  first_refused t refusal.TypesLeft h = h

  then_refused : (t renamed : Node) → IsRenamed t renamed → (e : PassError) → IsPairRefusal renamed e → IsRefusedInTurn IsRefused IsRenamed t e
  then_refused t renamed is refusal.NoMemory h = free t
  then_refused t renamed is refusal.NotAssignable h = (renamed, is, h)
  then_refused t renamed is refusal.CounterSpent h = absurd h
  then_refused t renamed is refusal.MarksSpent h = absurd h
  then_refused t renamed is refusal.TypesLeft h = absurd h

pub chain_refused_first : (s : Settings) (t : Node) (e : PassError) → IsApartRefusal s t e → IsRefusedInTurn (IsApartRefusal s) (IsApart s) t e
chain_refused_first s t e h = first_refused (IsApartRefusal s) (IsApart s) (λ t h. h) (λ t. tt) t e h

pub chain_refused_then : (s : Settings) (t renamed : Node) → IsApart s t renamed → (e : PassError) → IsPairRefusal renamed e → IsRefusedInTurn (IsApartRefusal s) (IsApart s) t e
chain_refused_then s t renamed is e h = then_refused (IsApartRefusal s) (IsApart s) (λ t h. h) (λ t. tt) t renamed is e h

pub mangle_refused_first : (s : Settings) (t : Node) (e : PassError) → IsShortRefusal s t e → IsRefusedInTurn (IsShortRefusal s) (IsShort s) t e
mangle_refused_first s t e h = first_refused (IsShortRefusal s) (IsShort s) (λ t h. h) (λ t. tt) t e h

pub mangle_refused_then : (s : Settings) (t renamed : Node) → IsShort s t renamed → (e : PassError) → IsPairRefusal renamed e → IsRefusedInTurn (IsShortRefusal s) (IsShort s) t e
mangle_refused_then s t renamed is e h = then_refused (IsShortRefusal s) (IsShort s) (λ t h. h) (λ t. tt) t renamed is e h

-- no pass is refused for types, where none stand
never_types : (c : Command) (s : Settings) (t : Node) → IsCauseOf c s t refusal.TypesLeft → ⊥
never_types command.Chain s t h = h
never_types command.Mangle s t h = h
never_types command.Hygiene s t h = h
never_types command.Fix s t h = h
never_types command.Unparen s t h = h

pub refused_for_cause : (c : Command) (s : Settings) (t : Node) → has_types t ≡ false → (e : PassError) → IsCauseOf c s t e → IsRefusal c s t e
refused_for_cause c s t none refusal.TypesLeft h = absurd (never_types c s t h)
refused_for_cause c s t none refusal.NoMemory h = (none, h)
refused_for_cause c s t none refusal.MarksSpent h = (none, h)
refused_for_cause c s t none refusal.CounterSpent h = (none, h)
refused_for_cause c s t none refusal.NotAssignable h = (none, h)
