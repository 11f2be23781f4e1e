-- Rows after an event: which are reported and how, and which are left (01, "Record and work memory"). Definitions only.
use Rattle.std.specs.Prelude.{cond, List, [], ◌∷◌, ℕ, ◌+◌, ◌*◌}
use Rattle.meaning.specs.Table.{Table}
use Rattle.meaning.specs.Rows.{is_selecting, is_rejecting}
use Rattle.places.specs.Memory.{Held, each}
use Rattle.rows.specs.Steps.{is_decided}

-- The report words of a position.
abbrev pub selected_word : ℕ → ℕ
selected_word position = 2 * position + 1

abbrev pub failed_word : ℕ → ℕ
failed_word position = 2 * position

-- A row whose newest state is in its newest selecting set is reported selected; otherwise, if it is in its rejecting set,
-- failed.
abbrev pub report_of : Held → List ℕ
report_of h =
    cond (is_selecting h.row) (selected_word h.position ∷ [])
    (cond (is_rejecting h.row) (failed_word h.position ∷ []) [])

abbrev pub reports_of : List Held → List ℕ
reports_of hs = each report_of hs

-- The rest stay.
abbrev pub left_over : Held → List Held
left_over h = cond (is_decided h.row) [] (h ∷ [])

abbrev pub left_of : List Held → List Held
left_of hs = each left_over hs

-- At the end every row is reported, selected if its state is final, failed if not.
abbrev pub end_report : Table → Held → List ℕ
end_report t h = cond (t.final h.row.newest.state) (selected_word h.position) (failed_word h.position) ∷ []

abbrev pub end_reports : Table → List Held → List ℕ
end_reports t hs = each (end_report t) hs
