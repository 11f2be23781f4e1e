-- The bytes of each body of a file that is as long as its n and k say are inside it. Assumes nothing.
use mathlib.Core.List.{List}
use mathlib.Core.Path.{◌≡◌}
use Prim.Native.Nat.{ℕ, ◌+◌, ◌*◌, ◌<◌}
use native.Mathlib.Omega.{arith}
use lib.Arith.{digits_lt}
use lib.ListN.{length}
use Rattle.bodies.specs.Sound.{Sound, CellOf, states_in, labels_in}
use Rattle.meaning.specs.Table.{body_at, body_length}
use Rattle.offsets.proofs.Bounds.{body_within, file_small}

module _ {f : List ℕ} (sound : Sound f) (i : ℕ) (kind : i < 5) where
  -- Byte j of body i is inside the file.
  pub byte_inside :
      (at j : ℕ) → at ≡ body_at (states_in f) (labels_in f) i → j < body_length (states_in f) (labels_in f) i → at + j < length f
  byte_inside at j e l = omega (arith, sound.size, body_within (states_in f) (labels_in f) i kind)

-- A cell is a byte of its body, and its place there is a small number.
pub cell_inside :
    {f : List ℕ} {i w q a : ℕ} → Sound f → CellOf f i w q a →
    (q * w + a < body_length (states_in f) (labels_in f) i) × (q * w + a < 6333)
cell_inside {f} {i} {w} {q} {a} sound cell =
    let l : q * w + a < body_length (states_in f) (labels_in f) i = rw cell.rows at (digits_lt cell.row_in cell.column_in) in
    let wf = sound.formed in
    (l, omega (arith, body_within (states_in f) (labels_in f) i cell.kind, file_small (states_in f) (labels_in f) wf.few_states wf.few_labels))
