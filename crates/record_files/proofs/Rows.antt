-- Small examples of where a record begins and what is kept beside it, and some that fail.
use Rattle.std.proofs.Common.{◌≡◌, ◌≢◌, ℕ, List, [], ◌∷◌, Result, Ok, Err, Option, Some, None, refl, ap, inl, inr, codes, arith}
use Rattle.std.specs.Fmt.{digits}
use Rattle.node_recorder.specs.flight_recorder.View.{RecorderView}
use Rattle.node_recorder.specs.flight_recorder.Recorder.{at_start}
use Rattle.node_recorder.specs.flight_recorder.Resume.{Begins, IsNone, Resumes}
use Rattle.node_recorder.specs.flight_recorder.declared.recorder.Side.{Side}
use Rattle.node_recorder.specs.flight_recorder.flight_records.Reading.{entry_at}
use Rattle.node_recorder.specs.flight_recorder.flight_records.declared.entry.Entry.{Entry}
use Rattle.node_recorder.specs.flight_recorder.flight_records.leb128.declared.unread.Unread.{Unread}
use Rattle.node_recorder.specs.flight_recorder.declared.recorder.Side.TheVariants.{First, Second}
use Rattle.record_files.specs.Files.{AreFirstPages, ArePagesAfter, file_bytes, of_side, side_to_begin}
use Rattle.record_files.specs.Kept.{draft_name, not_kept_line}

-- a record begins with the file that was written earlier, or with one that is not there
begins-first : side_to_begin None None ≡ First
begins-first = refl

begins-other : side_to_begin (Some 7) None ≡ Second
begins-other = refl

begins-earlier : side_to_begin (Some 8) (Some 7) ≡ Second
begins-earlier = refl

begins_not-later : side_to_begin (Some 7) (Some 8) ≢ Second
begins_not-later = grind arith

-- a file has room for two pages
has-room : file_bytes (record { bytes = 0 }) ≡ 65536
has-room = refl

-- ---- pages

of-first : of_side {X = Option ℕ} First None (Some 8) ≡ None
of-first = refl

of_not-first : of_side {X = Option ℕ} Second None (Some 8) ≡ Some 8
of_not-first = refl

-- a record begins at the start of a file, or after what stands in one
first-pages : AreFirstPages 65536 (at_start 65536 First)
first-pages = inl refl

first-resumed : (pages : RecorderView) (file : List ℕ) → Resumes 65536 pages.side 3 1 file pages → AreFirstPages 65536 pages
first-resumed pages file resumes = inr (3, 1, file, resumes)

-- then nothing is noted on its page
first_not-noted : ¬ AreFirstPages 65536 (record (at_start 65536 First) { page = 7 ∷ [] })
first_not-noted (inl is) = let e : ◌≡◌ {A = List ℕ} (7 ∷ []) [] = ap (λ (pages : RecorderView). pages.page) is in absurd cc
first_not-noted (inr (network, node, file, r)) =
    let e : ◌≡◌ {A = List ℕ} (7 ∷ []) [] = ap (λ (pages : RecorderView). pages.page) r.rest in absurd cc

nothing-begins : (read : Result (Entry × List ℕ) Unread) → IsNone read → Begins 3 1 read → ⊥
nothing-begins (Ok x) none begins = none
nothing-begins (Err e) none begins = begins

module _ (file : List ℕ) where
  -- the second file was written last: the record goes on in it, or if no entry begins there, the first one begins
  after-resumed : (pages : RecorderView) → Resumes 65536 Second 3 1 file pages → ArePagesAfter 65536 First 3 1 file pages
  after-resumed pages resumes = inl resumes

  after-none : IsNone (entry_at 0 file) → ArePagesAfter 65536 First 3 1 file (at_start 65536 First)
  after-none none = inr (inl (nothing-begins (entry_at 0 file) none), refl)

  -- the second one does not begin again, whatever stands in it
  after_not-over : ¬ ArePagesAfter 65536 First 3 1 file (at_start 65536 Second)
  after_not-over (inl r) = nothing-begins (entry_at 0 file) r.front.no_more r.begins
  after_not-over (inr (left, is)) = let e : ◌≡◌ {A = Side} Second First = ap (λ (pages : RecorderView). pages.side) is in absurd cc

-- each node writes the network's text under a name of its own first
names-draft : draft_name (codes "run") 2 ≡ codes "run/record.toml.2"
unfolding digits
names-draft = refl

names_not-draft : draft_name (codes "run") 2 ≢ codes "run/record.toml"
names_not-draft e = absurd cc

says-not_kept : not_kept_line (codes "run")
    ≡ codes "tokentree: run/record.toml: the network is not kept, so give it to gather by --network; the node runs on"
says-not_kept = refl
