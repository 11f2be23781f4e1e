-- What the searches of a file say of lines 3 and 5. Assumes nothing.
use mathlib.Core.Bool.{false}
use mathlib.Core.List.{List}
use mathlib.Core.Path.{◌≡◌, ap}
use Prim.Native.Nat.{ℕ, ◌+◌, ◌<◌}
use Rattle.std.proofs.Common.{Some}
use Rattle.meaning.proofs.Search.{wrong_below}
use Rattle.table.specs.File.{entry_right, contents_right, entry_found, body_right, bodies_right, body_found}
use Rattle.table.specs.File.{by_contents, by_bodies}
use Rattle.table.specs.declared.Field.{Field}
use Rattle.table.specs.declared.Refusal.TheVariants.{Contents, Body}
use Rattle.table.proofs.Found.{is_wrong}

module _ (f : List ℕ) where
  pub by_entry :
      {entry : ℕ} {field : Field} → Some (entry, field) ≡ entry_found f →
      (contents_right f ≡ false) × (entry < 5) × (Contents (entry + 1) field ≡ by_contents f)
  by_entry e =
      let w = is_wrong e in
      (w.0, rw (ap (λ p. p.0) w.1) (wrong_below 5 (entry_right f) w.0), ap (λ p. Contents (p.0 + 1) p.1) w.1)

  pub by_body :
      {body byte : ℕ} → Some (body, byte) ≡ body_found f →
      (bodies_right f ≡ false) × (body < 5) × (Body (body + 1) byte ≡ by_bodies f)
  by_body e =
      let w = is_wrong e in
      (w.0, rw (ap (λ p. p.0) w.1) (wrong_below 5 (body_right f) w.0), ap (λ p. Body (p.0 + 1) p.1) w.1)
