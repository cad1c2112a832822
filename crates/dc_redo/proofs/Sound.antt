-- What each record keeps of a state, as it is read.
use Rattle.std.proofs.Common.{◌≡◌, ◌+◌, ◌-◌, ◌*◌, ◌/◌, ◌<◌, ◌≤◌, ◌==◌, ◌&&◌, if◌then◌else◌, nat_lt, nat_le, ℕ, zero, suc, Bool, true, false, List, [], ◌∷◌, ◌++◌, length, get_or, take, drop, replicate, refl, sym, ◌∙◌, ap, arith, inl, ⊎_elim, Option, None, Some, length-drop, length-append, append_assoc}
use Rattle.std.proofs.lemmas.Bool.{and_parts, cond_both, eqb-true, leb-true, ltb-true, or_cases}
use Rattle.std.proofs.lemmas.List.{drop_at, take_at, get_or-drop, get_or-take, length-replicate, length-take-le}
use Rattle.std.specs.List.{AllByRecursion}
use Rattle.dc_kernel.specs.Layout.{commit_at}
use Rattle.dc_kernel.specs.Records.{is_record}
use Rattle.dc_words.specs.Words.{words_in}
use Rattle.dc_media.specs.Disk.{spliced}
use Rattle.dc_media.proofs.Splicing.{get_or-spliced_inside, get_or-spliced_outside, length-spliced}
use Rattle.dc_redo.specs.Entries.{Entry, Line, body_of, entry_in, entry_of, is_padded, lines_entry, lines_in, rise, tells, whole_in, whole_kernel, whole_memory}
use Rattle.dc_redo.specs.Entries.Entry.{Whole, Lines, Decision, Logged}
use Rattle.dc_redo.specs.Scans.{Fits, IsSound}
use Rattle.dc_redo.specs.Shapes.{IsShape, Shape, event_bytes, half_bytes, left_bytes, lines_of, log_room}
use Rattle.dc_redo.specs.Standing.{text_in}
use Rattle.dc_redo.specs.Tallies.{Contents, Status, Tally, begin, counting, go_on, laid, may_decide, may_log, taken, with_entry}
use Rattle.dc_redo.specs.Tallies.Status.{Fresh, Going, Waiting, Faulty}
use Rattle.dc_redo.proofs.States.{more_room}

-- where the lines are laid, what stands before the first one stays
pub laid_long : (lines : List Line) (from below : ℕ) (body : List ℕ) → rise from below lines ≡ true → AllByRecursion (λ (line : Line). length line.words ≡ 16) lines → 16 * below ≤ length body → length (laid lines body) ≡ length body
laid_long [] from below body rises all fits = refl
laid_long (line ∷ lines) from below body rises all fits =
    let a = and_parts (nat_le from line.at) (nat_lt line.at below && rise (line.at + 1) below lines) rises in
    let b = and_parts (nat_lt line.at below) (rise (line.at + 1) below lines) a.1 in
    let low = ltb-true line.at below b.0 in
    let many = all.0 in
    let room : 16 * line.at + length line.words ≤ length body = omega (arith, low, many, fits) in
    let long = length-spliced body (16 * line.at) line.words room in
    laid_long lines (line.at + 1) below (spliced body (16 * line.at) line.words) b.1 all.1 (omega (arith, long, fits)) ∙ long

pub laid_before : (lines : List Line) (from below j : ℕ) (body : List ℕ) → rise from below lines ≡ true → AllByRecursion (λ (line : Line). length line.words ≡ 16) lines → 16 * below ≤ length body → j < 16 * from → get_or (laid lines body) j 0 ≡ get_or body j 0
laid_before [] from below j body rises all fits less = refl
laid_before (line ∷ lines) from below j body rises all fits less =
    let a = and_parts (nat_le from line.at) (nat_lt line.at below && rise (line.at + 1) below lines) rises in
    let b = and_parts (nat_lt line.at below) (rise (line.at + 1) below lines) a.1 in
    let low = ltb-true line.at below b.0 in
    let over = leb-true from line.at a.0 in
    let many = all.0 in
    let room : 16 * line.at + length line.words ≤ length body = omega (arith, low, many, fits) in
    let long = length-spliced body (16 * line.at) line.words room in
    laid_before lines (line.at + 1) below j (spliced body (16 * line.at) line.words) b.1 all.1 (omega (arith, long, fits)) (omega (arith, over, less))
    ∙ get_or-spliced_outside body (16 * line.at) line.words j 0 room (inl (omega (arith, over, less)))

-- the number that the lines tell is there once they are laid
pub laid_tells : (lines : List Line) (from below at number : ℕ) (body : List ℕ) → rise from below lines ≡ true → AllByRecursion (λ (line : Line). length line.words ≡ 16) lines → 16 * below ≤ length body → tells at number lines ≡ true
    → get_or (laid lines body) (16 * at + commit_at) 0 ≡ number
laid_tells [] from below at number body rises all fits tell = absurd cc
laid_tells (line ∷ lines) from below at number body rises all fits tell =
    let a = and_parts (nat_le from line.at) (nat_lt line.at below && rise (line.at + 1) below lines) rises in
    let b = and_parts (nat_lt line.at below) (rise (line.at + 1) below lines) a.1 in
    let low = ltb-true line.at below b.0 in
    let many = all.0 in
    let room : 16 * line.at + length line.words ≤ length body = omega (arith, low, many, fits) in
    let next = spliced body (16 * line.at) line.words in
    let long = length-spliced body (16 * line.at) line.words room in
    let wide : 16 * below ≤ length next = omega (arith, long, fits) in
    ⊎_elim
    (λ here.
    let parts = and_parts (line.at == at) (get_or line.words commit_at 0 == number) here in
    let same : line.at ≡ at = eqb-true line.at at parts.0 in
    let is : get_or line.words commit_at 0 ≡ number = eqb-true (get_or line.words commit_at 0) number parts.1 in
    let index : 16 * line.at + commit_at - 16 * line.at ≡ commit_at = omega arith in
    ap (λ k. get_or (laid lines next) (16 * k + commit_at) 0) (sym same)
    ∙ laid_before lines (line.at + 1) below (16 * line.at + commit_at) next b.1 all.1 wide (omega arith)
    ∙ get_or-spliced_inside body (16 * line.at) line.words (16 * line.at + commit_at) 0 room (omega arith) (omega (arith, many))
    ∙ ap (λ k. get_or line.words k 0) index ∙ is)
    (λ more. laid_tells lines (line.at + 1) below at number next b.1 all.1 wide more)
    (or_cases (line.at == at && get_or line.words commit_at 0 == number) (tells at number lines) tell)

-- each line that is read has its words
pub lines_long : (count : ℕ) (words : List ℕ) → 17 * count ≤ length words → AllByRecursion (λ (line : Line). length line.words ≡ 16) (lines_in count words)
lines_long zero words fits = tt
lines_long (suc count) words fits = (length-take-le 16 (drop 1 words) (omega (arith, length-drop 1 words, fits)), lines_long count (drop 17 words) (omega (arith, length-drop 17 words, fits)))

module _ (sh : Shape) (words : List ℕ) (long : length words ≡ 2 + sh.kernel + sh.size) where
  kernel_long : length (whole_kernel sh words) ≡ sh.kernel
  kernel_long = length-take-le sh.kernel (drop 2 words) (omega (arith, length-drop 2 words, long))

  memory_long : length (whole_memory sh words) ≡ sh.size
  memory_long = omega (arith, length-drop (2 + sh.kernel) words, long)

  pub whole_body_long : length (body_of sh (whole_memory sh words) (whole_kernel sh words)) ≡ 16 * lines_of sh
  whole_body_long =
      let pad : List ℕ = replicate (16 * lines_of sh - (sh.size + sh.kernel)) 0 in
      let pad_long : length pad ≡ 16 * lines_of sh - (sh.size + sh.kernel) = length-replicate {A = ℕ} (16 * lines_of sh - (sh.size + sh.kernel)) 0 in
      let one = length-append (whole_memory sh words ++ whole_kernel sh words) pad in
      let two = length-append (whole_memory sh words) (whole_kernel sh words) in
      omega (arith, one, two, pad_long, kernel_long, memory_long)

  pub whole_text : text_in sh (body_of sh (whole_memory sh words) (whole_kernel sh words)) ≡ whole_kernel sh words
  whole_text =
      let pad : List ℕ = replicate (16 * lines_of sh - (sh.size + sh.kernel)) 0 in
      ap (λ (l : List ℕ). take sh.kernel (drop sh.size l)) (append_assoc (whole_memory sh words) (whole_kernel sh words) pad)
      ∙ ap (take sh.kernel) (drop_at (whole_memory sh words) (whole_kernel sh words ++ pad) sh.size memory_long)
      ∙ take_at (whole_kernel sh words) pad sh.kernel kernel_long

fits_whole : (sh : Shape) (prepared : Bool) (bytes : ℕ) (words : List ℕ) → bytes ≡ 8 + 4 * length words → Fits sh bytes (whole_in sh prepared words)
fits_whole sh prepared bytes words is =
    let test = (length words == 2 + sh.kernel + sh.size) && (get_or (whole_kernel sh words) commit_at 0 == get_or words 1 0) in
    cond_both test (Some (Whole prepared (get_or words 1 0) (body_of sh (whole_memory sh words) (whole_kernel sh words)))) None (Fits sh bytes)
    (λ yes_.
    let parts = and_parts (length words == 2 + sh.kernel + sh.size) (get_or (whole_kernel sh words) commit_at 0 == get_or words 1 0) yes_ in
    let long = eqb-true (length words) (2 + sh.kernel + sh.size) parts.0 in
    let number = eqb-true (get_or (whole_kernel sh words) commit_at 0) (get_or words 1 0) parts.1 in
    (omega (arith, is, long), whole_body_long sh words long, ap (λ (l : List ℕ). get_or l commit_at 0) (whole_text sh words long) ∙ number))
    (λ no_. tt)

fits_lines : (sh : Shape) (prepared : Bool) (number bytes : ℕ) (words : List ℕ) → Fits sh bytes (lines_entry sh prepared number words (lines_in (get_or words 2 0) (drop 3 words)))
fits_lines sh prepared number bytes words =
    let lines = lines_in (get_or words 2 0) (drop 3 words) in
    let right = rise 0 (lines_of sh) lines && (tells (sh.size / 16) number lines && is_padded sh lines) in
    cond_both ((length words == 3 + 17 * get_or words 2 0) && right) (Some (Lines prepared number lines)) None (Fits sh bytes)
    (λ yes_.
    let parts = and_parts (length words == 3 + 17 * get_or words 2 0) right yes_ in
    let long = eqb-true (length words) (3 + 17 * get_or words 2 0) parts.0 in
    let rises = and_parts (rise 0 (lines_of sh) lines) (tells (sh.size / 16) number lines && is_padded sh lines) parts.1 in
    let tell = and_parts (tells (sh.size / 16) number lines) (is_padded sh lines) rises.1 in
    (rises.0, tell.0, lines_long (get_or words 2 0) (drop 3 words) (omega (arith, length-drop 3 words, long))))
    (λ no_. tt)

fits_of : (sh : Shape) (bytes kind : ℕ) (words : List ℕ) → bytes ≡ 8 + 4 * length words → Fits sh bytes (entry_of sh kind words)
fits_of sh bytes kind words is =
    let F = Fits sh bytes in
    let lines = lines_in (get_or words 2 0) (drop 3 words) in
    let e6 : Option Entry = if kind == 6 then lines_entry sh true (get_or words 1 0) words lines else None in
    let e5 : Option Entry = if kind == 5 then lines_entry sh false (get_or words 1 0) words lines else e6 in
    let l4 : Option Entry = if (length words == 1 + sh.event) && is_record sh.form.n (drop 1 words) then Some (Logged (drop 1 words)) else None in
    let e4 : Option Entry = if kind == 4 then l4 else e5 in
    let l3 : Option Entry = if length words == 2 then Some (Decision (get_or words 1 0)) else None in
    let e3 : Option Entry = if kind == 3 then l3 else e4 in
    let e2 : Option Entry = if kind == 2 then whole_in sh true words else e3 in
    cond_both (kind == 1) (whole_in sh false words) e2 F (λ k. fits_whole sh false bytes words is) (λ k.
    cond_both (kind == 2) (whole_in sh true words) e3 F (λ k. fits_whole sh true bytes words is) (λ k.
    cond_both (kind == 3) l3 e4 F (λ k. cond_both (length words == 2) (Some (Decision (get_or words 1 0))) None F (λ two. let long = eqb-true (length words) 2 two in omega (arith, is, long)) (λ no_. tt)) (λ k.
    cond_both (kind == 4) l4 e5 F (λ k. cond_both ((length words == 1 + sh.event) && is_record sh.form.n (drop 1 words)) (Some (Logged (drop 1 words))) None F
    (λ yes_. let parts = and_parts (length words == 1 + sh.event) (is_record sh.form.n (drop 1 words)) yes_ in let long = eqb-true (length words) (1 + sh.event) parts.0 in omega (arith, is, long)) (λ no_. tt)) (λ k.
    cond_both (kind == 5) (lines_entry sh false (get_or words 1 0) words lines) e6 F (λ k. fits_lines sh false (get_or words 1 0) bytes words) (λ k.
    cond_both (kind == 6) (lines_entry sh true (get_or words 1 0) words lines) None F (λ k. fits_lines sh true (get_or words 1 0) bytes words) (λ k. tt))))))

pub entry_fits : (sh : Shape) (body : List ℕ) → Fits sh (8 + length body) (entry_in sh body)
unfolding entry_in
entry_fits sh body = cond_both (length body == 4 * length (words_in body)) (entry_of sh (get_or (words_in body) 0 0) (words_in body)) None (Fits sh (8 + length body))
    (λ yes_. let long = eqb-true (length body) (4 * length (words_in body)) yes_ in fits_of sh (8 + length body) (get_or (words_in body) 0 0) (words_in body) (omega (arith, long)))
    (λ no_. tt)

-- the first state
sound_begin : (sh : Shape) (d bytes : ℕ) (e : Option Entry) (t : Tally) (c : Contents) → t.at ≡ 0 → Fits sh bytes e → (begin d bytes e t).status ≡ Going → IsSound sh (begin d bytes e t) (with_entry e c)
sound_begin sh d bytes None t c none fits going = absurd (let wrong : Faulty ≡ Going = going in cc)
sound_begin sh d bytes (Some (Whole prepared n body)) t c none fits going =
    let many = fits.0 in
    record { number_is = fits.2; body_long = fits.1; log_long = refl; few = omega arith; room = omega (arith, many, none) }
sound_begin sh d bytes (Some (Lines prepared n lines)) t c none fits going = absurd (let wrong : Faulty ≡ Going = going in cc)
sound_begin sh d bytes (Some (Decision g)) t c none fits going = absurd (let wrong : Faulty ≡ Going = going in cc)
sound_begin sh d bytes (Some (Logged text)) t c none fits going = absurd (let wrong : Faulty ≡ Going = going in cc)

-- a test that refuses, where the record counts all the same
tested : (b : Bool) (x t : Tally) → (if b then x else record t { status = Faulty }).status ≡ Going → b ≡ true
tested true x t going = refl
tested false x t going = absurd (let wrong : Faulty ≡ Going = going in cc)

sound_go : (sh : Shape) (shape : IsShape sh) (d bytes : ℕ) (e : Option Entry) (t : Tally) (c : Contents) → IsSound sh t c → Fits sh bytes e → (go_on sh d bytes e t).status ≡ Going → IsSound sh (go_on sh d bytes e t) (with_entry e c)
sound_go sh shape d bytes None t c is fits going = absurd (let wrong : Faulty ≡ Going = going in cc)
sound_go sh shape d bytes (Some (Whole prepared n body)) t c is fits going = absurd (let wrong : Faulty ≡ Going = going in cc)
sound_go sh shape d bytes (Some (Lines prepared n lines)) t c is fits going =
    let test = nat_lt t.number n && nat_le (t.at + bytes + left_bytes sh) (half_bytes sh) in
    let yes_ : test ≡ true = tested test (counting d prepared n bytes t) t going in
    let parts = and_parts (nat_lt t.number n) (nat_le (t.at + bytes + left_bytes sh) (half_bytes sh)) yes_ in
    let room = leb-true (t.at + bytes + left_bytes sh) (half_bytes sh) parts.1 in
    let whole = shape.whole in
    let some = shape.some in
    let body_long = is.body_long in
    let wide : 16 * lines_of sh ≤ length c.body = omega (arith, body_long) in
    let long = laid_long lines 0 (lines_of sh) c.body fits.0 fits.2 wide in
    let from : sh.size + commit_at ≡ 16 * (sh.size / 16) + commit_at = omega (arith, whole) in
    let number = get_or-take sh.kernel (drop sh.size (laid lines c.body)) commit_at 0 (omega (arith, some)) ∙ get_or-drop sh.size (laid lines c.body) commit_at 0
    ∙ ap (λ k. get_or (laid lines c.body) k 0) from ∙ laid_tells lines 0 (lines_of sh) (sh.size / 16) n c.body fits.0 fits.2 wide fits.1 in
    rw yes_ (record { number_is = number; body_long = long ∙ body_long; log_long = refl; few = omega arith; room = omega (arith, room) })
sound_go sh shape d bytes (Some (Decision g)) t c is fits going =
    let yes_ : may_decide t g ≡ true = tested (may_decide t g) _ t going in
    let none : t.decided ≡ 0 = eqb-true t.decided 0 yes_ in
    let room = is.room in
    rw yes_ (record { number_is = is.number_is; body_long = is.body_long; log_long = is.log_long; few = is.few; room = omega (arith, room, none, fits) })
sound_go sh shape d bytes (Some (Logged text)) t c is fits going =
    let yes_ : may_log t ≡ true = tested (may_log t) _ t going in
    let low : t.logged < log_room = ltb-true t.logged log_room yes_ in
    let rest = more_room (event_bytes sh) t.logged low in
    let room = is.room in
    let log_long = is.log_long in
    rw yes_ (record { number_is = is.number_is; body_long = is.body_long; log_long = omega (arith, length-append c.log (text ∷ []), log_long); few = omega (arith, low); room = omega (arith, room, rest, fits) })

-- a record that counts
pub sound_taken : (sh : Shape) (shape : IsShape sh) (d bytes : ℕ) (e : Option Entry) (s : Status) (t : Tally) (c : Contents) → (s ≡ Fresh → t.at ≡ 0) → (s ≡ Going → IsSound sh t c) → t.status ≡ s → Fits sh bytes e
    → (taken sh d bytes e s t).status ≡ Going → IsSound sh (taken sh d bytes e s t) (with_entry e c)
sound_taken sh shape d bytes e Fresh t c none is same fits going = sound_begin sh d bytes e t c (none refl) fits going
sound_taken sh shape d bytes e Going t c none is same fits going = sound_go sh shape d bytes e t c (is refl) fits going
sound_taken sh shape d bytes e Waiting t c none is same fits going = absurd (let wrong : Waiting ≡ Going = sym same ∙ going in cc)
sound_taken sh shape d bytes e Faulty t c none is same fits going = absurd (let wrong : Faulty ≡ Going = sym same ∙ going in cc)
