-- A loop that reads the elements of a list one after another, up to the first fault.
use Rattle.std.proofs.Common.{◌≡◌, List, [], ◌∷◌, ◌++◌, Result, Ok, Err, IsErrAnd, refl, sym, subst, append_assoc, append-nil}
use Rattle.jsbase_reader.specs.declared.error.ReadError.{ReadError}
use Rattle.jsbase_reader.specs.declared.error.ReadError.TheVariants as error
use Rattle.jsbase_reader.specs.Answers.{Gives, GivesMore}
use Rattle.jsbase_form.specs.Reads.{Path, Read, ◌>>=◌}

-- what was read, and then what is left to read
abbrev pub after : {B : Type 0} → List B → Read (List B) → Read (List B)
after done r = r >>= (λ ts. Ok (done ++ ts))

pub after-none : {B : Type 0} (r : Read (List B)) → r ≡ after [] r
after-none (Ok ts) = refl
after-none (Err p) = refl

pub after-all : {B : Type 0} (done : List B) → after done (Ok []) ≡ Ok done
after-all done = rw append-nil

pub after-cons : {B : Type 0} (done : List B) (t : B) (r : Read (List B)) → after done (r >>= (λ ts. Ok (t ∷ ts))) ≡ after (done ++ t ∷ []) r
after-cons done t (Ok ts) = rw append_assoc
after-cons done t (Err p) = refl

-- a fault of a part that was to stand behind what was read before it is the fault of the whole
more_fault : {A B : Type 0} (T : Type 0) (e : ReadError) (one : Read A) (all : Read B) (before more : List A) → GivesMore {T = T} (Err e) before more one → ((p : Path) → one ≡ Err p → all ≡ Err p) → Gives {A = B} (Err e) all
more_fault T error.NoMemory one all before more g f = tt
more_fault T (error.Fault p) one all before more g f = f p g

pub gives_stop : {A B : Type 0} (T : Type 0) (e : ReadError) (result : Result B ReadError) (one : Read A) (all : Read B) (before more : List A) → IsErrAnd result (λ f. f ≡ e) → GivesMore {T = T} (Err e) before more one
    → ((p : Path) → one ≡ Err p → all ≡ Err p) → Gives result all
gives_stop T e (Ok x) one all before more is g f = absurd is
gives_stop T e (Err h) one all before more is g f = let P : ReadError → Type 0 = λ k. Gives (Err k) all in subst P (sym is) (more_fault T e one all before more g f)
