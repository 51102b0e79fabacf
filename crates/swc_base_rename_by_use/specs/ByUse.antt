-- The short texts, with one that is an id's own first.
use Rattle.std.specs.Prelude.{ℕ, ◌-◌, ◌^◌, nat_le, nat_lt, ◌==◌, List, unwrap_or, if◌then◌else◌}
use Rattle.std.specs.Cmp.Lexicographic.{slice_cmp}
use Rattle.std.specs.BTreeMap.{get_by}
use Rattle.std.specs.Ordering.{nat_cmp, ordering_then}
use Rattle.swc_base_rename_substitution.specs.Names.{Id}
use Rattle.swc_base_rename_by_use.specs.ShortTexts.{short_text}
use Rattle.swc_base_rename_by_use.specs.declared.by_use.TextsByUse.{TextsByUse}

-- a counter, if a `usize` holds it
abbrev pub held : ℕ → ℕ
held n = if nat_lt n (2 ^ 64) then n else 0

-- the counter that is put down for an id, else 0
abbrev pub put_down : TextsByUse → Id → ℕ
put_down texts x = unwrap_or (get_by (λ k. ordering_then (slice_cmp nat_cmp x.0 k.0) (slice_cmp nat_cmp x.1 k.1)) texts.own) 0

-- the counter of the short text that is an id's own
abbrev pub own : TextsByUse → Id → ℕ
own texts x = held (put_down texts x)

-- which counter comes at a counter, where that one comes first and the others keep their order
abbrev pub moved : ℕ → ℕ → ℕ
moved first n = if n == 0 then first else if nat_le n first then n - 1 else n

-- the text of an id at a counter: its own, and then the other short texts
abbrev pub text_by_use : TextsByUse → Id → ℕ → List ℕ
text_by_use texts x n = short_text (moved (own texts x) n)
