-- The fields of a record, read one by one.
use Rattle.std.proofs.Common.{◌≡◌, ℕ, ◌+◌, ◌^◌, ◌<◌, ◌≤◌, List, [], ◌∷◌, ◌++◌, length, get_or, take, Some, None, Ok, Err, decimal, Option, Result, sym, refl, ap, ◌∙◌, subst, ⊎_elim, append-nil, zero-le, arith, Bor, MatchOption}
use Rattle.std.proofs.Math.ListN.{set}
use Rattle.std.proofs.lemmas.List.{get_or_append_left, get_or_push, length-take, length_push, take_more_set}
use Rattle.std.proofs.lemmas.Bool.{cases_lt}
use Rattle.figures.specs.declared.ranges.Range.{Range}
use Rattle.figures.specs.Ranges.{Within, missing}
use Rattle.records.specs.declared.place.Place.{Place}
use Rattle.records.specs.declared.word.Word.{Word as Spoken}
use Rattle.records.specs.declared.word.Word.TheVariants.{Mark, Number, Junk}
use Rattle.records.specs.declared.word_fault.WordFault.{WordFault}
use Rattle.records.specs.declared.word_fault.WordFault.TheVariants.{OutOfRange, NoNumber}
use Rattle.records.specs.declared.record_fault.RecordFault.TheVariants.{Word}
use Rattle.records.specs.Readings.{IsWord, ReadPart, FigureRead}
use Rattle.records.specs.Fields.{Good, WrongWord, NotWritten, OutOf, FaultyFields, figures_text, led}
use Rattle.records.specs.Numerals.{Writes, most_digits}
use Rattle.records.specs.Words.{Lacks}

-- good figures were read, and what is left of the text
abbrev pub Progress : List Range → List ℕ → List ℕ → Option (Bor (List ℕ)) → Type 0
Progress ranges text before None = Good ranges before × (1 ≤ length before) × (text ≡ figures_text before)
Progress ranges text before (Some rest) = Good ranges before × (text ≡ led before rest.now)

led-push : (before : List ℕ) (n : ℕ) (rest : List ℕ) → led before (decimal n ++ 32 ∷ rest) ≡ led (before ++ n ∷ []) rest
led-push [] n rest = refl
led-push (g ∷ gs) n rest = ap (λ (t : List ℕ). decimal g ++ 32 ∷ t) (led-push gs n rest)

text_push : (before : List ℕ) (n : ℕ) → led before (decimal n) ≡ figures_text (before ++ n ∷ [])
text_push [] n = refl
text_push (g ∷ []) n = refl
text_push (g ∷ h ∷ hs) n = ap (λ (t : List ℕ). decimal g ++ 32 ∷ t) (text_push (h ∷ hs) n)

module _ (ranges : List Range) (text : List ℕ) where
  pub good_none : Good ranges []
  good_none = record { few = zero-le; short = λ i h. absurd (omega arith); within = λ i h. absurd (omega arith) }

  module _ (before : List ℕ) (n : ℕ) (good : Good ranges before) (due : length before < length ranges) where
    -- what holds of each figure and of one more holds of each then
    each-push : (P : ℕ → ℕ → Type 0) → ((i : ℕ) → i < length before → P i (get_or before i 0)) → P (length before) n →
        (i : ℕ) → i < length (before ++ n ∷ []) → P i (get_or (before ++ n ∷ []) i 0)
    each-push P old new i h =
        ⊎_elim (λ (l : i < length before). subst (P i) (sym (get_or_append_left before (n ∷ []) 0 i l)) (old i l))
        (λ (l : length before ≤ i).
        let e : length before ≡ i = let p = length_push before n in omega arith in
        subst (P i) (sym (get_or_push before n 0 i e)) (subst (λ j. P j n) e new))
        (cases_lt i (length before))

    good-push : n < 10 ^ most_digits → Within (get_or ranges (length before) missing) n → Good ranges (before ++ n ∷ [])
    good-push short within = record {
      few = let l = length_push before n in omega arith;
      short = each-push (λ i x. x < 10 ^ most_digits) good.short short;
      within = each-push (λ i x. Within (get_or ranges i missing) x) good.within within;
    }

    -- one more good figure
    pub progress_more : (part rest : List ℕ) (after : Option (Bor (List ℕ))) → text ≡ led before rest →
        MatchOption after (rest ≡ part) (λ r. rest ≡ part ++ 32 ∷ r.now) → Writes part n → Within (get_or ranges (length before) missing) n →
        Progress ranges text (before ++ n ∷ []) after
    progress_more part rest None e cut w within =
        (good-push w.0 within, (let l = length_push before n in omega arith), e ∙ ap (led before) (cut ∙ w.1) ∙ text_push before n)
    progress_more part rest (Some r) e cut w within =
        (good-push w.0 within, e ∙ ap (led before) (cut ∙ ap (λ (t : List ℕ). t ++ 32 ∷ r.now) w.1) ∙ led-push before n r.now)

  -- a word that is wrong
  pub wrong_word : (Wrong : Range → List ℕ → Type 0) (before part rest : List ℕ) (after : Option (Bor (List ℕ))) → Good ranges before → length before < length ranges →
      text ≡ led before rest → Lacks 32 part → MatchOption after (rest ≡ part) (λ r. rest ≡ part ++ 32 ∷ r.now) →
      Wrong (get_or ranges (length before) missing) part → (field : ℕ) → field ≡ length before + 1 → WrongWord Wrong ranges text field
  wrong_word Wrong before part rest None good due e lacks cut wrong field here = record {
    before = before;
    word = part;
    tail = [];
    good = good;
    due = due;
    here = here;
    alone = lacks;
    ended = tt;
    written = e ∙ ap (led before) (cut ∙ sym (append-nil part));
    wrong = wrong;
  }
  wrong_word Wrong before part rest (Some r) good due e lacks cut wrong field here = record {
    before = before;
    word = part;
    tail = 32 ∷ r.now;
    good = good;
    due = due;
    here = here;
    alone = lacks;
    ended = refl;
    written = e ∙ ap (led before) cut;
    wrong = wrong;
  }

-- the figure of a field's word is that of its part
pub word_read : (part : List ℕ) (place : Place) (range : Range) (w : Spoken) (r : Result ℕ WordFault) → IsWord part place w → FigureRead w range r → ReadPart part place range r
word_read part place range (Mark p at) r i f = absurd i
word_read part place range (Number p at) r (n, e, same) f = subst (λ x. ReadPart x place range r) e (subst (λ x. ReadPart p.now x range r) same f)
word_read part place range (Junk p at) r (none, e, same) f = subst (ReadPart part place range) (sym f) (none, same)

-- a fault of a field's word
pub word_faulty : (ranges : List Range) (n : ℕ) (text before part rest : List ℕ) (after : Option (Bor (List ℕ))) (fault : WordFault) → Good ranges before → length before < length ranges →
    text ≡ led before rest → Lacks 32 part → MatchOption after (rest ≡ part) (λ r. rest ≡ part ++ 32 ∷ r.now) →
    ReadPart part (record { «record» = n; field = length before + 1 }) (get_or ranges (length before) missing) (Err fault) → FaultyFields ranges n text (Word fault)
word_faulty ranges n text before part rest after (OutOfRange p) good due e lacks cut (wrong, here) =
    (wrong_word ranges text OutOf before part rest after good due e lacks cut wrong p.field (ap (λ x. x.field) here), ap (λ x. x.«record») here)
word_faulty ranges n text before part rest after (NoNumber p) good due e lacks cut (wrong, here) =
    (wrong_word ranges text NotWritten before part rest after good due e lacks cut wrong p.field (ap (λ x. x.field) here), ap (λ x. x.«record») here)

-- Where the loop stands: i figures were read, and this is what is left of the text.
module _ (ranges : List Range) (text figures : List ℕ) (i : ℕ) (rest : Option (Bor (List ℕ))) (full : length figures ≡ length ranges) (so_far : Progress ranges text (take i figures) rest) where
  -- the next word, up to a space or the end, and the word that it is
  module _ (n : ℕ) (left : Bor (List ℕ)) (some : rest ≡ Some left) (due : i < length ranges) (part : List ℕ) (after : Option (Bor (List ℕ))) (cut : MatchOption after (left.now ≡ part) (λ r. left.now ≡ part ++ 32 ∷ r.now))
      (w : Spoken) (word : IsWord part (record { «record» = n; field = i + 1 }) w) where
    long : length (take i figures) ≡ i
    long = let l = length-take i figures in omega arith

    now : Progress ranges text (take i figures) (Some left)
    now = subst (Progress ranges text (take i figures)) some so_far

    pub next_read : (figure : ℕ) → FigureRead w (get_or ranges i missing) (Ok figure) → Progress ranges text (take (i + 1) (set figures i figure)) after
    next_read figure read =
        let r = word_read part (record { «record» = n; field = i + 1 }) (get_or ranges i missing) w (Ok figure) word read in
        let l = long in
        subst (λ (fs : List ℕ). Progress ranges text fs after) (sym (take_more_set figures i figure (omega arith)))
        (progress_more ranges text (take i figures) figure now.0 (omega arith) part left.now after now.1 cut r.0 (subst (λ k. Within (get_or ranges k missing) figure) (sym long) r.1))

    pub next_wrong : Lacks 32 part → (fault : WordFault) → FigureRead w (get_or ranges i missing) (Err fault) → FaultyFields ranges n text (Word fault)
    next_wrong lacks fault read =
        let l = long in
        word_faulty ranges n text (take i figures) part left.now after fault now.0 (omega arith) now.1 lacks cut
        (subst (λ k. ReadPart part (record { «record» = n; field = k + 1 }) (get_or ranges k missing) (Err fault)) (sym long)
        (word_read part (record { «record» = n; field = i + 1 }) (get_or ranges i missing) w (Err fault) word read))
