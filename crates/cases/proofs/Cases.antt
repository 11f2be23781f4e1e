-- The twelve cases hold, by computation over the definitions that the contracts cite. Assumes nothing.
use mathlib.Core.Path.{refl}
use Rattle.meaning.specs.Masks.{added, within}
use Rattle.meaning.specs.Search.{searched}
use Rattle.order.specs.Order.{first_fault}
use Rattle.cases.specs.Cases.{All, Holds, cases}

pub all_hold : All Holds cases
unfolding added within searched first_fault
all_hold = (
  (refl, tt),
  (
    (refl, tt),
    (
      ((refl, refl, refl), tt),
      (
        (refl, (refl, tt)),
        (
          (refl, tt),
          (
            (refl, tt),
            (
              ((refl, refl), tt),
              (
                ((refl, refl), tt),
                (((refl, refl), tt), (((refl, refl), tt), (((refl, refl), tt), (((refl, refl), ((refl, refl), ((refl, refl), ((refl, refl), ((refl, refl), tt))))), tt)))),
              ),
            ),
          ),
        ),
      ),
    ),
  ),
)
