-- An event that is logged, and a decision that is made: a record more in the half that counts.
use Rattle.std.proofs.Common.{◌≡◌, ◌⊎◌, ◌+◌, ◌-◌, ◌*◌, ◌<◌, ◌≤◌, ◌^◌, ℕ, suc, true, List, [], ◌∷◌, ◌++◌, map, length, get_or, set, drop, refl, sym, ◌∙◌, ap, subst, arith, inl, inr, ⊎_elim, Option, None, Some, Ok}
use Rattle.std.proofs.lemmas.Bool.{eq-eqb}
use Rattle.dc_media.specs.Disk.{Disk}
use Rattle.dc_media.specs.Told.{Becomes}
use Rattle.dc_words.specs.Words.{AllBelow, bytes_in, words_in}
use Rattle.dc_words.proofs.Bytes.{bytes_long, words_again}
use Rattle.dc_kernel.specs.Kernels.{IsMessage}
use Rattle.dc_kernel.specs.Records.{IsRecord, body_of, record_in, record_text}
use Rattle.dc_kernel.specs.declared.records.LogRecord.{LogRecord}
use Rattle.dc_kernel.proofs.Logged.{record_again, record_right}
use Rattle.dc_checkpoint.specs.States.{IsLogged, Reading, with_record}
use Rattle.dc_redo.specs.Entries.{Entry, entry_in, entry_of}
use Rattle.dc_redo.specs.Entries.Entry.{Logged}
use Rattle.dc_redo.specs.Frames.{framed, records_of}
use Rattle.dc_redo.specs.Gathered.{IsEventPiece}
use Rattle.dc_redo.specs.Images.{EachImage, IsSynced}
use borrow.Rule.Slice.PartMut.{put_mid}
use Rattle.std.proofs.lemmas.List.{append-nil, drop_all, map_push}
use Rattle.dc_kernel.proofs.Slots.{slot_long}
use Rattle.dc_redo.specs.Laws.{own_image, same_image}
use Rattle.dc_redo.specs.Pieces.{Holds}
use Rattle.dc_redo.specs.Shapes.{Shape, event_bytes, half_bytes, log_room}
use Rattle.dc_redo.specs.Standing.{Numbers, StandsFor, half_number, last_number, memory_in, number, reading, text_in}
use Rattle.dc_redo.specs.Tallies.{greater, logging, with_entry}
use Rattle.dc_redo.specs.Whole.{Agrees, Counts, IsAdding, IsAtRest, IsLog, IsReady, Known}
use Rattle.dc_redo.proofs.Growing.{counts_more, next_event, state_read}
use Rattle.dc_redo.specs.Handles.{IsSteady}
use Rattle.dc_redo.specs.Standing.{is_disk}
use Rattle.dc_redo.proofs.Readings.{going_some, log_reading}
use Rattle.dc_redo.proofs.Steady.{IsNoDecision, keeps_still, kept_more, log_kept}
use Rattle.dc_redo.proofs.States.{log_number, more_room, most_is, state_event}

-- a body that is the bytes of words says what these words say
pub entry_words : (sh : Shape) (words : List ℕ) → AllBelow (2 ^ 32) words → entry_in sh (bytes_in words) ≡ entry_of sh (get_or words 0 0) words
unfolding entry_in
entry_words sh words below =
    let again = words_again words below in
    let long : length (bytes_in words) ≡ 4 * length (words_in (bytes_in words)) = bytes_long words ∙ ap (λ (l : List ℕ). 4 * length l) (sym again) in
    rw (eq-eqb (length (bytes_in words)) (4 * length (words_in (bytes_in words))) long) (ap (λ (l : List ℕ). entry_of sh (get_or l 0 0) l) again)

abbrev pub event_text : LogRecord → List ℕ
event_text rec = 4 ∷ record_text rec

pub event_entry : (sh : Shape) (rec : LogRecord) → length (record_text rec) ≡ sh.event → AllBelow (2 ^ 32) (event_text rec) → IsMessage (body_of rec.told) → IsRecord sh.form.n rec → entry_in sh (bytes_in (event_text rec)) ≡ Some (Logged (record_text rec))
event_entry sh rec long below message right =
    let many : suc (length (record_text rec)) ≡ 1 + sh.event = omega (arith, long) in
    entry_words sh (event_text rec) below ∙ rw (eq-eqb (suc (length (record_text rec))) (1 + sh.event) many, record_right sh.form.n rec message right) refl

-- two images with the same records stand for the same
pub same_log : (sh : Shape) (at : ℕ) (bodies : List (List ℕ)) (others x c : List ℕ) (d : ℕ) → IsLog (half_bytes sh) at bodies others x → IsLog (half_bytes sh) at bodies others c → reading sh d c ≡ reading sh d x
same_log sh at bodies others x c d old new = log_reading sh at bodies others c new d ∙ sym (log_reading sh at bodies others x old d)

pub same_number : (sh : Shape) (at : ℕ) (bodies : List (List ℕ)) (others x c : List ℕ) → IsLog (half_bytes sh) at bodies others x → IsLog (half_bytes sh) at bodies others c → number sh c ≡ number sh x
same_number sh at bodies others x c old new = log_number sh at bodies others c new ∙ sym (log_number sh at bodies others x old)

-- what a handle knows once an event more is logged, of a record of so many bytes
abbrev pub known_event : ℕ → Known → Known
known_event bytes k = record k { end = k.end + bytes; logged = k.logged + 1 }

module _ (sh : Shape) (k : Known) (rec : LogRecord) (body : List ℕ) (is : entry_in sh body ≡ Some (Logged (record_text rec))) (long : 8 + length body ≡ event_bytes sh) (again : record_in (record_text rec) ≡ rec) (room : k.logged < log_room) (x : List ℕ) (agrees : Agrees sh k x) where
  low : agrees.tally.logged < log_room
  low = let logged_is = agrees.known.logged_is in omega (arith, room, logged_is)

  pub event_counts : (d : ℕ) → k.floor ≤ d → Counts sh d (agrees.bodies ++ body ∷ []) agrees.others (logging (8 + length body) agrees.tally) (record { body = agrees.contents.body; log = agrees.contents.log ++ record_text rec ∷ [] })
  event_counts d high =
      let next_is = next_event sh d agrees.tally agrees.state.going body (record_text rec) is low in
      let more = counts_more sh d agrees.bodies agrees.others body agrees.tally (logging (8 + length body) agrees.tally) agrees.contents (agrees.counts d high) next_is refl (omega arith) in
      subst (λ (e : Option Entry). Counts sh d (agrees.bodies ++ body ∷ []) agrees.others (logging (8 + length body) agrees.tally) (with_entry e agrees.contents)) is more

  -- the record fits
  pub event_adding : (piece : List ℕ) → piece ≡ framed body → length body < 2 ^ 32 → IsAdding (half_bytes sh) k.at k.end piece agrees.bodies body agrees.others x
  event_adding piece piece_is short =
      let at_is = agrees.state.at_is in
      let end_is = agrees.known.end_is in
      let rest : event_bytes sh * (log_room - agrees.tally.logged) ≡ event_bytes sh + event_bytes sh * (log_room - (agrees.tally.logged + 1)) = more_room (event_bytes sh) agrees.tally.logged low in
      let fits = agrees.state.room in
      record { log = agrees.log; end_is = omega (arith, at_is, end_is); piece_is = piece_is; short = short; fits = omega (arith, fits, rest, long, end_is) }

  -- what stands there with it
  pub event_reading : (c : List ℕ) (d : ℕ) → k.floor ≤ d → IsLog (half_bytes sh) k.at (agrees.bodies ++ body ∷ []) agrees.others c
      → reading sh d c ≡ Ok (with_record (record { memory = memory_in sh agrees.contents.body; kernel = text_in sh agrees.contents.body; log = map record_in agrees.contents.log }) rec)
  event_reading c d high log =
      log_reading sh k.at (agrees.bodies ++ body ∷ []) agrees.others c log d
      ∙ state_read sh d (agrees.bodies ++ body ∷ []) agrees.others (logging (8 + length body) agrees.tally) (record { body = agrees.contents.body; log = agrees.contents.log ++ record_text rec ∷ [] }) (event_counts d high) refl agrees.state.text_ok
      ∙ ap (λ (l : List LogRecord). Ok (record { memory = memory_in sh agrees.contents.body; kernel = text_in sh agrees.contents.body; log = l })) (map_push record_in agrees.contents.log (record_text rec) ∙ ap (λ (r : LogRecord). map record_in agrees.contents.log ++ r ∷ []) again)

  -- the handle goes on with it
  pub event_agrees : (c : List ℕ) → IsLog (half_bytes sh) k.at (agrees.bodies ++ body ∷ []) agrees.others c → Agrees sh (known_event (8 + length body) k) c
  event_agrees c log =
      let end_is = agrees.known.end_is in
      let logged_is = agrees.known.logged_is in
      record {
        bodies = agrees.bodies ++ body ∷ [];
        others = agrees.others;
        tally = logging (8 + length body) agrees.tally;
        contents = record { body = agrees.contents.body; log = agrees.contents.log ++ record_text rec ∷ [] };
        log = log;
        counts = event_counts;
        state = state_event sh agrees.bodies body (record_text rec) agrees.tally agrees.contents agrees.state long low;
        stands = λ d high. log_reading sh k.at (agrees.bodies ++ body ∷ []) agrees.others c log d
            ∙ state_read sh d (agrees.bodies ++ body ∷ []) agrees.others (logging (8 + length body) agrees.tally) (record { body = agrees.contents.body; log = agrees.contents.log ++ record_text rec ∷ [] }) (event_counts d high) refl agrees.state.text_ok;
        known = record {
          end_is = omega (arith, end_is);
          number_is = agrees.known.number_is;
          logged_is = omega (arith, logged_is);
          decided_is = agrees.known.decided_is;
          full_is = agrees.known.full_is;
          body_long = agrees.known.body_long;
          touched_long = agrees.known.touched_long;
          untouched = agrees.known.untouched;
        };
      }

  -- its decided number is what it was
  pub event_number : (c : List ℕ) → k.floor ≤ last_number → IsLog (half_bytes sh) k.at (agrees.bodies ++ body ∷ []) agrees.others c → number sh c ≡ number sh x
  event_number c small log =
      log_number sh k.at (agrees.bodies ++ body ∷ []) agrees.others c log
      ∙ ap (λ n. greater n (half_number sh (records_of agrees.others)))
      (most_is sh (agrees.bodies ++ body ∷ []) agrees.others (logging (8 + length body) agrees.tally) (record { body = agrees.contents.body; log = agrees.contents.log ++ record_text rec ∷ [] }) (event_counts last_number small)
      ∙ sym (most_is sh agrees.bodies agrees.others agrees.tally agrees.contents (agrees.counts last_number small)))
      ∙ sym (log_number sh k.at agrees.bodies agrees.others x agrees.log)

-- what the images stand for behind an append
module _ (sh : Shape) (k : Known) (rec : LogRecord) (body piece : List ℕ) (is : entry_in sh body ≡ Some (Logged (record_text rec))) (long : 8 + length body ≡ event_bytes sh) (again : record_in (record_text rec) ≡ rec) (room : k.logged < log_room)
    (piece_is : piece ≡ framed body) (short : length body < 2 ^ 32) where
  pub event_between : (old new : Option Disk) → IsReady sh k old → Becomes old new (λ b a. Unit {0})
      → ((bodies : List (List ℕ)) (b others x : List ℕ) → IsAdding (half_bytes sh) k.at k.end piece bodies b others x → IsSynced x old → EachImage new (λ c. IsLog (half_bytes sh) k.at bodies others c ⊎ IsLog (half_bytes sh) k.at (bodies ++ b ∷ []) others c))
      → (d : ℕ) (r : Reading) → k.floor ≤ d → StandsFor sh new d r → StandsFor sh old d r ⊎ IsLogged (StandsFor sh old d) rec r
  event_between old None ready told images d r high left = absurd left
  event_between None (Some a) ready told images d r high left = absurd told
  event_between (Some b) (Some a) ready told images d r high left =
      let agrees = ready.1 in
      let x = b.content in
      let adding = event_adding sh k rec body is long again room x agrees piece piece_is short in
      let own = own_image b in
      ⊎_elim
      (λ same. inl (x, own, left.2 ∙ same_log sh k.at agrees.bodies agrees.others x left.0 d agrees.log same))
      (λ more. inr (
        record { memory = memory_in sh agrees.contents.body; kernel = text_in sh agrees.contents.body; log = map record_in agrees.contents.log },
        (x, own, sym (agrees.stands d high)),
        left.2 ∙ event_reading sh k rec body is long again room x agrees left.0 d high more,
      ))
      (images agrees.bodies body agrees.others x adding (refl, ready.0) left.0 left.1)

  pub event_done : (old new : Option Disk) → IsReady sh k old → Becomes old new (λ b a. Unit {0})
      → ((bodies : List (List ℕ)) (b others x : List ℕ) → IsAdding (half_bytes sh) k.at k.end piece bodies b others x → IsSynced x old → IsAtRest (IsLog (half_bytes sh) k.at (bodies ++ b ∷ []) others) new)
      → IsReady sh (known_event (8 + length body) k) new
  event_done old None ready told done = tt
  event_done None (Some a) ready told done = absurd told
  event_done (Some b) (Some a) ready told done =
      let agrees = ready.1 in
      let at_rest = done agrees.bodies body agrees.others b.content (event_adding sh k rec body is long again room b.content agrees piece piece_is short) (refl, ready.0) in
      (at_rest.0, event_agrees sh k rec body is long again room b.content agrees a.content at_rest.1)

  pub event_stands : (old new : Option Disk) → IsReady sh k old → Becomes old new (λ b a. Unit {0})
      → ((bodies : List (List ℕ)) (b others x : List ℕ) → IsAdding (half_bytes sh) k.at k.end piece bodies b others x → IsSynced x old → IsAtRest (IsLog (half_bytes sh) k.at (bodies ++ b ∷ []) others) new)
      → (d : ℕ) (r : Reading) → k.floor ≤ d → StandsFor sh new d r → IsLogged (StandsFor sh old d) rec r
  event_stands old None ready told done d r high left = absurd left
  event_stands None (Some a) ready told done d r high left = absurd told
  event_stands (Some b) (Some a) ready told done d r high left =
      let agrees = ready.1 in
      let x = b.content in
      let at_rest = done agrees.bodies body agrees.others x (event_adding sh k rec body is long again room x agrees piece piece_is short) (refl, ready.0) in
      let same = same_image a left.0 at_rest.0 left.1 in (
        record { memory = memory_in sh agrees.contents.body; kernel = text_in sh agrees.contents.body; log = map record_in agrees.contents.log },
        (x, own_image b, sym (agrees.stands d high)),
        left.2 ∙ ap (reading sh d) same ∙ event_reading sh k rec body is long again room x agrees a.content d high at_rest.1,
      )

  pub event_numbers : k.floor ≤ last_number → (old new : Option Disk) → IsReady sh k old → Becomes old new (λ b a. Unit {0})
      → ((bodies : List (List ℕ)) (b others x : List ℕ) → IsAdding (half_bytes sh) k.at k.end piece bodies b others x → IsSynced x old → EachImage new (λ c. IsLog (half_bytes sh) k.at bodies others c ⊎ IsLog (half_bytes sh) k.at (bodies ++ b ∷ []) others c))
      → (e : ℕ) → Numbers sh new e → Numbers sh old e
  event_numbers small old None ready told images e left = absurd left
  event_numbers small None (Some a) ready told images e left = absurd told
  event_numbers small (Some b) (Some a) ready told images e left =
      let agrees = ready.1 in
      let x = b.content in (
        x,
        own_image b,
        left.2 ∙ ⊎_elim
            (λ same. same_number sh k.at agrees.bodies agrees.others x left.0 agrees.log same)
            (λ more. event_number sh k rec body is long again room x agrees left.0 small more)
            (images agrees.bodies body agrees.others x (event_adding sh k rec body is long again room x agrees piece piece_is short) (refl, ready.0) left.0 left.1),
      )

  pub event_steady : k.floor ≤ last_number → (old new : Option Disk) → IsReady sh k old → Becomes old new (λ b a. Unit {0})
      → ((bodies : List (List ℕ)) (b others x : List ℕ) → IsAdding (half_bytes sh) k.at k.end piece bodies b others x → IsSynced x old → EachImage new (λ c. IsLog (half_bytes sh) k.at bodies others c ⊎ IsLog (half_bytes sh) k.at (bodies ++ b ∷ []) others c))
      → IsSteady sh old → IsSteady sh new
  event_steady small old None ready told images steady = tt
  event_steady small None (Some a) ready told images steady = absurd told
  event_steady small (Some b) (Some a) ready told images steady = λ c image.
      let agrees = ready.1 in
      let x = b.content in
      let log = agrees.log in
      let wide = log.room in
      let large : is_disk sh x ≡ true = grind (arith, wide) in
      let some = going_some sh k.floor agrees.bodies (agrees.counts k.floor (omega arith)).begins in
      let none : IsNoDecision (entry_in sh body) = subst (λ (e : Option Entry). IsNoDecision e) (sym is) tt in
      ⊎_elim
      (λ (same : IsLog (half_bytes sh) k.at agrees.bodies agrees.others c). keeps_still sh x c (same_number sh k.at agrees.bodies agrees.others x c log same) large
      (λ d. log_kept sh d k.at agrees.bodies agrees.others c same ∙ sym (log_kept sh d k.at agrees.bodies agrees.others x log)) (steady x (own_image b)))
      (λ (more : IsLog (half_bytes sh) k.at (agrees.bodies ++ body ∷ []) agrees.others c). keeps_still sh x c (event_number sh k rec body is long again room x agrees c small more) large
      (λ d. log_kept sh d k.at (agrees.bodies ++ body ∷ []) agrees.others c more ∙ kept_more sh d agrees.bodies agrees.others body some none ∙ sym (log_kept sh d k.at agrees.bodies agrees.others x log)) (steady x (own_image b)))
      (images agrees.bodies body agrees.others x (event_adding sh k rec body is long again room x agrees piece piece_is short) (refl, ready.0) c image)

-- so many words
pub text_long : (rec : LogRecord) → IsMessage (body_of rec.told) → length (record_text rec) ≡ 21
text_long rec message = omega (arith, slot_long (body_of rec.told) message)

-- the kind, and the text behind it
pub words_are : (ws text : List ℕ) (k : ℕ) → length ws ≡ 1 + length text → k ≡ length text → put_mid 1 k (set ws 0 4) text ≡ 4 ∷ text
words_are [] text k long is = absurd (omega (arith, long))
words_are (w ∷ rest) text k long is =
    let none : drop k rest ≡ [] = drop_all k rest (omega (arith, long, is)) in
    ap (λ (l : List ℕ). 4 ∷ (text ++ l)) none ∙ ap (λ (l : List ℕ). 4 ∷ l) (append-nil text)

pub event_piece : (sh : Shape) (rec : LogRecord) (words piece : List ℕ) (end : ℕ) → length (record_text rec) ≡ sh.event → 2 * half_bytes sh < 2 ^ 32 → IsMessage (body_of rec.told) → IsRecord sh.form.n rec → words ≡ event_text rec → (holding : List ℕ) → Holds words end holding → piece ≡ framed (bytes_in words) → IsEventPiece sh rec piece
event_piece sh rec words piece end long small message right words_is holding held piece_is =
    let many : length (event_text rec) ≡ 1 + sh.event = omega (arith, long) in
    let bytes = bytes_long (event_text rec) in
    record {
      body = bytes_in (event_text rec);
      is = event_entry sh rec long (subst (AllBelow (2 ^ 32)) words_is held.below) message right;
      long = omega (arith, bytes, many);
      again = record_again sh.form.n rec message right;
      piece_is = piece_is ∙ ap (λ (l : List ℕ). framed (bytes_in l)) words_is;
      short = omega (arith, bytes, many, small);
    }
