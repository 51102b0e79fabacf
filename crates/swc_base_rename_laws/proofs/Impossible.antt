-- Said once for the kinds that a match leaves: `cc` at each of them is dear.
use Rattle.std.proofs.Common.{◌≡◌, true, false}

pub impossible : {A : Type 0} → false ≡ true → A
impossible h = absurd (cc)
