-- What is nothing of an Option. Assumes nothing.
use Rattle.std.proofs.Common.{◌≡◌, refl, Option, Some, None}

pub none_is : {A : Type 0} (o : Option A) → ((x : A) → o ≡ Some x → ⊥) → o ≡ None
none_is None n = refl
none_is (Some x) n = absurd (n x refl)
