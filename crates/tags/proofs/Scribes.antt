-- The writer's steps are the writing of `grammar`, where the list of names is good: from states that are related, events
-- give the same bytes and are at fault alike. Assumes nothing.
use Rattle.std.proofs.Common.{Option, Some, None}
use mathlib.Core.Path.{◌≡◌, refl, sym, ap, ap₂, subst, ◌∙◌}
use mathlib.Core.Bool.{Bool, true, false, ◌&&◌}
use mathlib.Core.List.{List, [], ◌∷◌}
use Prim.Native.Nat.{ℕ, zero, suc, ◌%◌, ◌<◌}
use native.Mathlib.Nat.{mod-eq_of_lt}
use native.Mathlib.Omega.{arith}
use borrow.Author.Tests.{lt-ltb, ltb-true, ltb-false}
use lib.Dec.{eqb, ltb}
use lib.ListN.{length, get_or}
use Rattle.meaning.proofs.Tests.{both_true}
use Rattle.answers.specs.declared.Event.{Event}
use Rattle.answers.specs.declared.Event.TheVariants as event
use Rattle.answers.specs.Bytes.{meaning_of}
use Rattle.grammar.specs.declared.Fault.TheVariants as fault
use Rattle.grammar.specs.Names.{is_name, name_at, lines_of, good_names}
use Rattle.grammar.specs.Tags.{Tag, tag_text}
use Rattle.grammar.specs.Feeding.{Step, stopped, stepped, feed, roomed}
use Rattle.grammar.specs.Writing.{Written, unwritten, after_tag, close_tag, close_of_tag, write_event, write_step}
use Rattle.grammar.proofs.Names.{GoodList, good_list}
use Rattle.names.specs.Words.{spelt, word_at, is_label}
use Rattle.names.proofs.Finding.{eqb_turned}
use Rattle.names.proofs.Spelling.{Spells, spelt_is, length_short}
use Rattle.names.proofs.Naming.{word_spells, no_word_lem}
use Rattle.tags.specs.declared.writer.Scribe.{Scribe}
use Rattle.tags.specs.declared.writer.Form.TheVariants as form
use Rattle.tags.specs.declared.writer.Spelled.{Spelled}
use Rattle.tags.specs.Levels.{deeper_by, shallower, newest_of, open_from, open_in}
use Rattle.tags.specs.Writers.{begin, written, has_name, close_event, close_of_event, event_step, spell_step, step_by, scribe_step, follow_in, write_in}
use Rattle.tags.proofs.Agreeing.{StepsAgree, FeedsAgree, agree_by, agree_feed, InRoom, agree_roomed}
use Rattle.tags.proofs.Opened.{Kept, kept_none, open_length, open_deeper, kept_deeper, kept_shallower, newest_is, open_shallower}

-- A scribe keeps what `grammar` says is written; its labels are those of k names.
pub record Keeps (k : ℕ) (s : Scribe) (w : Written) : Type 0 where
  pub levels : w.levels ≡ open_in s.levels
  pub ended : s.ended ≡ w.ended
  pub kept : Kept k s.levels

pub keeps_begin : (k : ℕ) → Keeps k begin unwritten
keeps_begin k = record { levels = refl; ended = refl; kept = kept_none k }

-- An event as the writer spells it does what that step does.
abbrev Agrees : ℕ → Scribe → Option Spelled → Step Written → Type 0
Agrees k s x y = StepsAgree (Keeps k) (step_by s x) y

agree_wrong : {k : ℕ} {s : Scribe} {w : Written} → Keeps k s w → Agrees k s None (stopped w fault.Byte)
agree_wrong h = record { gives = refl; stops = refl; next = h }

-- As many are open.
depth_is : {k : ℕ} {s : Scribe} {w : Written} → Keeps k s w → s.levels.depth ≡ length w.levels
depth_is {k} {s} {w} h = sym (ap length h.levels ∙ open_length s.levels.labels s.levels.depth)

module _ (names : List ℕ) (good : good_names names ≡ true) where
  abbrev ns : List (List ℕ)
  ns = lines_of names

  list : GoodList (lines_of names)
  list = good_list names good

  spells : (a : ℕ) → a < length ns → Spells (word_at names a) (name_at ns a)
  spells a l = word_spells names a l (omega (arith, list.few))

  -- A name has a byte.
  some_byte : (x : List ℕ) → is_name x ≡ true → 0 < length x
  some_byte [] e = let z : ◌≡◌ {A = ℕ} 0 1 = cc in absurd (omega arith)
  some_byte (b ∷ x) e = omega arith

  -- The word of a label is its name; no other has one.
  word_is : (a : ℕ) → a < length ns → spelt (word_at names a) ≡ name_at ns a
  word_is a l = spelt_is (spells a l) (list.short a l)

  has_name_lem : (a : ℕ) → has_name (word_at names a) ≡ ltb a (length ns)
  has_name_lem a = go (ltb a (length ns)) refl
    where
      go : (t : Bool) → ltb a (length ns) ≡ t → has_name (word_at names a) ≡ t
      go true e =
          let l : a < length ns = ltb-true a (length ns) e in
          let long : (word_at names a).length ≡ length (name_at ns a) = (spells a l).length_is (list.short a l) in
          let some : 0 < length (name_at ns a) = some_byte (name_at ns a) (list.names a l) in
          rw (lt-ltb 0 (word_at names a).length (omega arith), length_short (spells a l) (list.short a l))
      go false e = ap has_name (no_word_lem names a (ltb-false a (length ns) e))

  module _ {s : Scribe} {w : Written} (h : Keeps (length ns) s w) where
    agree_open : (a : ℕ) → Agrees (length ns) s (event_step names s (event.Open a)) (write_event ns w (event.Open a))
    agree_open a =
        agree_by (Agrees (length ns) s) (has_name (word_at names a) && ltb s.levels.depth 40) (ltb a (length ns) && ltb (length w.levels) 40)
        (ap₂ ◌&&◌ (has_name_lem a) (ap (λ (d : ℕ). ltb d 40) (depth_is h))) opens (agree_wrong h)
      where
        opens : ltb a (length ns) && ltb (length w.levels) 40 ≡ true
            → Agrees (length ns) s (Some (written (deeper_by s.levels (a % 256)) form.Opening (word_at names a)))
            (stepped (after_tag (a ∷ w.levels)) (tag_text (Tag.opening (name_at ns a))))
        opens e =
            let p = both_true (ltb a (length ns)) (ltb (length w.levels) 40) e in
            let l : a < length ns = ltb-true a (length ns) p.0 in
            let f : s.levels.depth < 40 = omega (arith, depth_is h, ltb-true (length w.levels) 40 p.1) in
            let m : a % 256 ≡ a = mod-eq_of_lt (omega (arith, list.few)) in
            record {
              gives = ap (λ (x : List ℕ). tag_text (Tag.opening x)) (word_is a l);
              stops = refl;
              next = rw m (record { levels = rw (open_deeper h.kept a f, h.levels); ended = refl; kept = kept_deeper h.kept a l f });
            }

    agree_point : (a : ℕ) → Agrees (length ns) s (event_step names s (event.Point a)) (write_event ns w (event.Point a))
    agree_point a =
        agree_by (Agrees (length ns) s) (has_name (word_at names a)) (ltb a (length ns)) (has_name_lem a)
        (λ e. record {
          gives = ap (λ (x : List ℕ). tag_text (Tag.empty x)) (word_is a (ltb-true a (length ns) e));
          stops = refl;
          next = record { levels = h.levels; ended = refl; kept = h.kept };
        })
        (agree_wrong h)

    agree_end : Agrees (length ns) s (event_step names s event.End) (write_event ns w event.End)
    agree_end =
        agree_by (Agrees (length ns) s) (eqb s.levels.depth 0) (eqb (length w.levels) 0) (ap (λ (d : ℕ). eqb d 0) (depth_is h))
        (λ e. record { gives = refl; stops = refl; next = record { levels = h.levels; ended = refl; kept = h.kept } })
        (agree_wrong h)

    -- With nothing open there is no newest; else the newest is closed.
    none_open : s.levels.depth ≡ 0 → newest_of s.levels ≡ None
    none_open e = rw e

    agree_close : Agrees (length ns) s (event_step names s event.Close) (write_event ns w event.Close)
    agree_close = go s.levels.depth refl
      where
        go : (d : ℕ) → s.levels.depth ≡ d → Agrees (length ns) s (close_event names s) (close_tag ns w w.levels)
        go zero e =
            let o : close_tag ns w w.levels ≡ stopped w fault.Byte = ap (close_tag ns w) (h.levels ∙ ap (open_from s.levels.labels) e) in
            rw (none_open e, o) (agree_wrong h)
        go (suc d) e =
            let l : get_or s.levels.labels d 0 < length ns = h.kept.known d (omega arith) in
            let t : has_name (word_at names (get_or s.levels.labels d 0)) ≡ true = has_name_lem (get_or s.levels.labels d 0) ∙ lt-ltb (get_or s.levels.labels d 0) (length ns) l in
            let q : close_event names s ≡ Some (written (shallower s.levels) form.Closing (word_at names (get_or s.levels.labels d 0))) =
            rw (newest_is h.kept d e, t) in
            let o : w.levels ≡ get_or s.levels.labels d 0 ∷ open_from s.levels.labels d = h.levels ∙ ap (open_from s.levels.labels) e in
            rw (q, o)
            (record {
              gives = ap (λ (x : List ℕ). tag_text (Tag.closing x)) (word_is (get_or s.levels.labels d 0) l);
              stops = refl;
              next = record { levels = sym (open_shallower h.kept d e); ended = refl; kept = kept_shallower h.kept };
            })

    -- A close that names a label does so too, where that is the newest's.
    agree_close_of : (a : ℕ) → Agrees (length ns) s (event_step names s (event.CloseOf a)) (write_event ns w (event.CloseOf a))
    agree_close_of a = go s.levels.depth refl
      where
        go : (d : ℕ) → s.levels.depth ≡ d → Agrees (length ns) s (close_of_event names s a) (close_of_tag ns w a w.levels)
        go zero e =
            let o : close_of_tag ns w a w.levels ≡ stopped w fault.Byte = ap (close_of_tag ns w a) (h.levels ∙ ap (open_from s.levels.labels) e) in
            rw (none_open e, o) (agree_wrong h)
        go (suc d) e =
            let c = get_or s.levels.labels d 0 in
            let o : w.levels ≡ c ∷ open_from s.levels.labels d = h.levels ∙ ap (open_from s.levels.labels) e in
            let test : is_label (newest_of s.levels) a ≡ eqb a c = ap (λ (n : Option ℕ). is_label n a) (newest_is h.kept d e) ∙ eqb_turned c a in
            subst (λ (l : List ℕ). Agrees (length ns) s (close_of_event names s a) (close_of_tag ns w a l)) (sym o)
            (agree_by (Agrees (length ns) s) (is_label (newest_of s.levels) a) (eqb a c) test
            (λ t. subst (λ (l : List ℕ). Agrees (length ns) s (close_event names s) (close_tag ns w l)) o agree_close)
            (agree_wrong h))

    agree_event : (e : Event) → Agrees (length ns) s (event_step names s e) (write_event ns w e)
    agree_event (event.Open a) = agree_open a
    agree_event (event.Point a) = agree_point a
    agree_event event.Close = agree_close
    agree_event (event.CloseOf a) = agree_close_of a
    agree_event event.End = agree_end
    agree_event event.Unknown = agree_wrong h

    agree_spell : (b : ℕ) → Agrees (length ns) s (spell_step names s b) (write_step ns w b)
    agree_spell b = agree_by (Agrees (length ns) s) s.ended w.ended h.ended (λ e. agree_wrong h) (agree_event (meaning_of b))

  agree_step : (s : Scribe) (w : Written) (b : ℕ) → Keeps (length ns) s w → StepsAgree (Keeps (length ns)) (scribe_step names s b) (write_step ns w b)
  agree_step s w b h = agree_spell h b

  -- All events.
  pub scribe_writes : (s : Scribe) (w : Written) (es : List ℕ) → Keeps (length (lines_of names)) s w
      → FeedsAgree (Keeps (length (lines_of names))) (follow_in names s es) (feed (write_step (lines_of names)) w es)
  scribe_writes s w es h = agree_feed (Keeps (length ns)) (scribe_step names) (write_step ns) agree_step s w es h

  -- The same with room, as a piece of a stream is written.
  pub scribe_writes_in : (s : Scribe) (w : Written) (room : ℕ) (piece : List ℕ) → Keeps (length (lines_of names)) s w
      → FeedsAgree (InRoom (Keeps (length (lines_of names)))) (write_in names s room piece)
      (feed (roomed (write_step (lines_of names))) (record { inner = w; left = room }) piece)
  scribe_writes_in s w room piece h =
      agree_feed (InRoom (Keeps (length ns))) (roomed (scribe_step names)) (roomed (write_step ns))
      (agree_roomed (Keeps (length ns)) (scribe_step names) (write_step ns) agree_step)
      (record { inner = s; left = room }) (record { inner = w; left = room }) piece (record { inner = h; left = refl })
