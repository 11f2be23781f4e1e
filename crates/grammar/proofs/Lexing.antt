-- Tags told apart with no regard to names and nesting, by a step that only collects them: what a text holds, it holds in
-- one way. Assumes nothing.
use Rattle.std.proofs.Math.Numerals.{one-add}
use Rattle.std.proofs.Common.{Some, None}
use mathlib.Core.Path.{◌≡◌, refl, sym, ap, ◌∙◌}
use mathlib.Core.Bool.{true}
use mathlib.Core.List.{List, [], ◌∷◌, ◌++◌, append-nil, append_assoc, nil≢cons, head-eq_of_cons-eq}
use Prim.Native.Nat.{ℕ}
use lib.ListN.{length, length-append}
use Rattle.grammar.specs.declared.Fault.TheVariants as fault
use Rattle.grammar.specs.Tags.{Tag, tag_text, Holds, Begun, begun_text, is_begun}
use Rattle.grammar.specs.Feeding.{Step, stopped, stepped, Fed, after, feed}
use Rattle.grammar.specs.Reading.{Next, extend}
use Rattle.grammar.specs.Faults.{Begins, Whole}
use Rattle.grammar.proofs.Feeding.{went, feed_then, feed_break, went_then, no_fault}
use Rattle.grammar.proofs.Tagging.{begun_on, tag_on}

-- The tag that is begun, and the tags before it.
record Lexed : Type 0 where
  begun : Begun
  tags : List Tag

abbrev lexed : Begun → List Tag → Lexed
lexed q ts = record { begun = q; tags = ts }

abbrev collected : List Tag → Begun → Next → Step Lexed
collected ts q Next.no = stopped (lexed q ts) fault.Byte
collected ts q (Next.more q') = stepped (lexed q' ts) []
collected ts q (Next.whole t) = stepped (lexed Begun.nothing (ts ++ (t ∷ []))) []

abbrev collect : Lexed → ℕ → Step Lexed
collect l b = collected l.tags l.begun (extend l.begun b)

collect_more : (ts : List Tag) (q q' : Begun) (b : ℕ) → extend q b ≡ Next.more q' → collect (lexed q ts) b ≡ stepped (lexed q' ts) []
collect_more ts q q' b e = rw e

collects : {s : List ℕ} {ts : List Tag} (us : List Tag) → Holds s ts
    → feed collect (lexed Begun.nothing us) s ≡ went [] (length s) (lexed Begun.nothing (us ++ ts))
collects us Holds.nothing = rw (append-nil us)
collects us (Holds.blank {s = s} {b = b} e h) = rw (collect_more us Begun.nothing Begun.nothing b (rw e), collects us h, one-add (length s))
collects us (Holds.tag {s = s} {ts = ts} {t = t} n h) =
    rw (
      went_then collect (lexed Begun.nothing us) (lexed Begun.nothing (us ++ (t ∷ []))) (lexed Begun.nothing ((us ++ (t ∷ [])) ++ ts)) [] []
          (length (tag_text t)) (length s) (tag_text t) s
          (tag_on collect lexed collect_more us (us ++ (t ∷ [])) [] t n (λ q b e. rw e))
          (collects (us ++ (t ∷ [])) h),
      append_assoc us (t ∷ []) ts,
      length-append (tag_text t) s,
    )

collects_begun : {s : List ℕ} {ts : List Tag} (q : Begun) → Holds s ts → is_begun q ≡ true
    → feed collect (lexed Begun.nothing []) (s ++ begun_text q) ≡ went [] (length (s ++ begun_text q)) (lexed q ts)
collects_begun {s} {ts} q h g =
    rw (
      went_then collect (lexed Begun.nothing []) (lexed Begun.nothing ts) (lexed q ts) [] [] (length s) (length (begun_text q)) s (begun_text q)
          (collects [] h) (begun_on collect lexed collect_more ts q g),
      length-append s (begun_text q),
    )

-- A text holds its tags, and no others.
pub tags_unique : {s : List ℕ} {ts ts' : List Tag} → Holds s ts → Holds s ts' → ts ≡ ts'
tags_unique h h' = ap (λ (f : Fed Lexed). f.state.tags) (sym (collects [] h) ∙ collects [] h')

-- In a text of whole tags nothing is begun.
pub nothing_begun : {s u : List ℕ} {ts us : List Tag} {q : Begun} → Holds s ts → Holds u us → s ≡ u ++ begun_text q → is_begun q ≡ true
    → q ≡ Begun.nothing
nothing_begun {q = q} h k e g =
    ap (λ (f : Fed Lexed). f.state.begun)
    (sym (collects_begun q k g) ∙ ap (λ (v : List ℕ). feed collect (lexed Begun.nothing []) v) (sym e) ∙ collects [] h)

-- Where no byte is allowed, no text begins.
pub no_begins : {s : List ℕ} {ts : List Tag} (q : Begun) (b : ℕ) → Holds s ts → is_begun q ≡ true → extend q b ≡ Next.no
    → ¬ Begins ((s ++ begun_text q) ++ (b ∷ []))
no_begins {s} {ts} q b h g e k =
    let start = lexed Begun.nothing [] in
    let on : (feed collect start (((s ++ begun_text q) ++ (b ∷ [])) ++ k.rest)).stops ≡ None = ap (λ (f : Fed Lexed). f.stops) (collects [] k.holds) in
    let off : (feed collect start ((s ++ begun_text q) ++ (b ∷ k.rest))).stops ≡ Some fault.Byte =
    ap (λ (f : Fed Lexed). f.stops)
    (feed_break collect start (lexed q ts) [] (length (s ++ begun_text q)) fault.Byte (s ++ begun_text q) b k.rest
    (collects_begun q h g) (rw e)) in
    no_fault fault.Byte (sym (rw (append_assoc (s ++ begun_text q) (b ∷ []) k.rest) at on) ∙ off)

-- A tag that is whole with a byte is what the byte makes whole.
pub whole_extends : (q : Begun) (b : ℕ) (t : Tag) → is_begun q ≡ true → Whole q b t → extend q b ≡ Next.whole t
whole_extends q b t g w = go (extend q b) refl
  where
    fed : after [] (length (begun_text q)) (feed collect (lexed q []) (b ∷ [])) ≡ went [] (length (tag_text t)) (lexed Begun.nothing (t ∷ []))
    fed =
        sym (feed_then collect (lexed Begun.nothing []) (lexed q []) [] (length (begun_text q)) (begun_text q) (b ∷ [])
        (begun_on collect lexed collect_more [] q g))
        ∙ ap (λ (s : List ℕ). feed collect (lexed Begun.nothing []) s) w.text
        ∙ tag_on collect lexed collect_more [] (t ∷ []) [] t w.named (λ q b e. rw e)

    tags : (feed collect (lexed q []) (b ∷ [])).state.tags ≡ t ∷ []
    tags = ap (λ (f : Fed Lexed). f.state.tags) fed

    on : (feed collect (lexed q []) (b ∷ [])).stops ≡ None
    on = ap (λ (f : Fed Lexed). f.stops) fed

    go : (x : Next) → extend q b ≡ x → extend q b ≡ Next.whole t
    go Next.no e = no_fault fault.Byte (sym (rw e at on))
    go (Next.more q') e = absurd (nil≢cons (rw e at tags))
    go (Next.whole t') e = e ∙ ap Next.whole (head-eq_of_cons-eq (rw e at tags))
