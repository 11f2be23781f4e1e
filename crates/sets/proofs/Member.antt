-- One turn of the search through acc for a state that leads out of down(q,x), over bare tests. Assumes nothing.
-- in-acc: p is in acc; state: p is a state; in-x: A(q,p) is in x.
use mathlib.Core.Path.{◌≡◌, refl, sym, ◌∙◌}
use mathlib.Core.Bool.{Bool, true, false, not, ◌&&◌, ◌||◌}

not_flips : (r b : Bool) → not r ≡ not b → r ≡ b
not_flips true true e = refl
not_flips true false e = sym e
not_flips false true e = sym e
not_flips false false e = refl

module _ {in-acc h : Bool} (e : h ≡ in-acc) (state in-x : Bool) where
  pub not_in_acc : h ≡ false → not in-acc || (state && in-x) ≡ true
  not_in_acc f = rw (← e, f)

  pub no_state : h ≡ true → state ≡ false → not in-acc || (state && in-x) ≡ false
  no_state f g = rw (← e, f, g)

  pub leads_in : {r : Bool} → h ≡ true → state ≡ true → r ≡ in-x → not r ≡ false → not in-acc || (state && in-x) ≡ true
  leads_in {r} f g i j = rw (← e, f, g) (sym i ∙ not_flips r true j)

  pub leads_out : {r : Bool} → h ≡ true → state ≡ true → r ≡ in-x → not r ≡ true → not in-acc || (state && in-x) ≡ false
  leads_out {r} f g i j = rw (← e, f, g) (sym i ∙ not_flips r false j)
