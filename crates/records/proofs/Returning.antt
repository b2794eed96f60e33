-- A record's line is read as that record.
use Rattle.std.proofs.Common.{◌≡◌, ℕ, ◌+◌, ◌^◌, ◌<◌, ◌≤◌, List, ◌∷◌, ◌++◌, length, get_or, Ok, Err, decimal, Result, sym, refl, ap, ◌∙◌, subst, ⊎_elim, arith}
use Rattle.std.proofs.lemmas.List.{append_cancel_left, length-append, get_or-append-add}
use Rattle.figures.specs.declared.ranges.Range.{Range}
use Rattle.figures.specs.Ranges.{Within, missing}
use Rattle.records.specs.declared.kind.RecordKind.{RecordKind}
use Rattle.records.specs.declared.kind.RecordKind.TheVariants as kind
use Rattle.records.specs.declared.record.Record.{Record}
use Rattle.records.specs.declared.record.Record.TheVariants.{Calendar, Delay, Pipeline, RootStage, Assembly, BucketStage, Day}
use Rattle.records.specs.declared.word_fault.WordFault.TheVariants.{OutOfRange, NoNumber}
use Rattle.records.specs.declared.record_fault.RecordFault.{RecordFault}
use Rattle.records.specs.declared.record_fault.RecordFault.TheVariants.{Word, LawBroken, NoMark, FieldCount, LongLine}
use Rattle.records.specs.Numerals.{Writes, most_digits}
use Rattle.records.specs.Fields.{Good, WrongWord, MissingField, ExtraField, NotWritten, OutOf, FaultyFields, figures_text}
use Rattle.records.specs.Kinds.{mark_of, ranges_of, TakenApart}
use Rattle.records.specs.Records.{kind_of, figures_of, record_text, InRange, TextRead, RecordRead, ReadsBack}
use Rattle.records.proofs.Splitting.{next_word, no_space, same_number, text_same, leads, tail_of, tail-ended}

-- a record from its kind and its figures
abbrev rebuilt : RecordKind → List ℕ → Record
rebuilt kind.Calendar fs = Calendar fs
rebuilt kind.Delay fs = Delay fs
rebuilt kind.Pipeline fs = Pipeline fs
rebuilt kind.RootStage fs = RootStage fs
rebuilt kind.Assembly fs = Assembly fs
rebuilt kind.BucketStage fs = BucketStage fs
rebuilt kind.Day fs = Day fs

rebuilt-same : (r : Record) → rebuilt (kind_of r) (figures_of r) ≡ r
rebuilt-same (Calendar fs) = refl
rebuilt-same (Delay fs) = refl
rebuilt-same (Pipeline fs) = refl
rebuilt-same (RootStage fs) = refl
rebuilt-same (Assembly fs) = refl
rebuilt-same (BucketStage fs) = refl
rebuilt-same (Day fs) = refl

-- every kind has a field
some_field : (k : RecordKind) → 1 ≤ length (ranges_of k)
some_field kind.Calendar = omega arith
some_field kind.Delay = omega arith
some_field kind.Pipeline = omega arith
some_field kind.RootStage = omega arith
some_field kind.Assembly = omega arith
some_field kind.BucketStage = omega arith
some_field kind.Day = omega arith

-- what the text after the mark tells, the line tells
pub line_read : (due : RecordKind) (n : ℕ) (line text : List ℕ) (r : Result Record RecordFault) → TakenApart due line text → TextRead due n text r → RecordRead due n line r
line_read due n line text (Ok r) apart (same, f) = (
  same,
  record { good = subst (λ k. Good (ranges_of k) (figures_of r)) (sym same) f.good; all = f.all ∙ ap (λ k. length (ranges_of k)) (sym same) },
  apart ∙ (λ i. mark_of (sym same i) ++ 32 ∷ f.written i),
)
line_read due n line text (Err (Word f)) apart p = (text, apart, p)
line_read due n line text (Err (LawBroken f)) apart p = p
line_read due n line text (Err (NoMark m)) apart p = absurd p
line_read due n line text (Err (FieldCount f)) apart p = (text, apart, p)
line_read due n line text (Err (LongLine m)) apart p = p

-- all figures of a record are good, so no word of them is wrong, none is missing, and none is too many
module _ (ranges : List Range) (fs : List ℕ) (good : Good ranges fs) (all : length fs ≡ length ranges) (some : 1 ≤ length fs) where
  no_wrong : (Wrong : Range → List ℕ → Type 0) → ((range : Range) (w : List ℕ) (n : ℕ) → Writes w n → Within range n → Wrong range w → ⊥) →
      (field : ℕ) → WrongWord Wrong ranges (figures_text fs) field → ⊥
  no_wrong Wrong never field w =
      let l = leads fs w.before (w.word ++ w.tail) good.short w.good.short some w.written in
      let at = length w.before in
      let long = ap length l.whole ∙ length-append w.before (l.next ∷ l.others) in
      let h : at < length fs = omega arith in
      let e : get_or fs at 0 ≡ l.next =
      ap (λ (xs : List ℕ). get_or xs at 0) l.whole ∙ ap (λ i. get_or (w.before ++ l.next ∷ l.others) i 0) (let z : at ≡ at + 0 = omega arith in z)
      ∙ get_or-append-add w.before (l.next ∷ l.others) 0 0 in
      let small : l.next < 10 ^ most_digits = subst (λ x. x < 10 ^ most_digits) e (good.short at h) in
      let word = (next_word w.word (decimal l.next) w.tail (tail_of l.others) w.alone (no_space l.next small) w.ended (tail-ended l.others) l.left).0 in
      never (get_or ranges at missing) w.word l.next (small, word) (subst (Within (get_or ranges at missing)) e (good.within at h)) w.wrong

  no_missing : (field : ℕ) → MissingField ranges (figures_text fs) field → ⊥
  no_missing field m = let e = ap length (text_same fs m.before good.short m.good.short some m.some m.written) in let d = m.due in omega arith

  no_extra : (field : ℕ) → ExtraField ranges (figures_text fs) field → ⊥
  no_extra field m =
      let l = leads fs m.before m.more good.short m.good.short some m.written in
      let long = ap length l.whole ∙ length-append m.before (l.next ∷ l.others) in
      let e = m.all in
      omega arith

  no_fault : (n : ℕ) (fault : RecordFault) → FaultyFields ranges n (figures_text fs) fault → ⊥
  no_fault n (Word (OutOfRange p)) (w, here) = no_wrong OutOf (λ range w n written within (m, written', out). out (subst (Within range) (same_number n m written.0 written'.0 (sym written.1 ∙ written'.1)) within)) p.field w
  no_fault n (Word (NoNumber p)) (w, here) = no_wrong NotWritten (λ range w n written within none. none n written) p.field w
  no_fault n (LawBroken p) w = w
  no_fault n (NoMark m) w = w
  no_fault n (FieldCount p) (w, here) = ⊎_elim (no_missing p.field) (no_extra p.field) w
  no_fault n (LongLine m) w = w

-- nothing is wrong with the fields of a line that a record writes
wrong_text : (due : RecordKind) (n : ℕ) (line text : List ℕ) (fault : RecordFault) (x : Record) → kind_of x ≡ due → InRange x → line ≡ record_text x →
    TakenApart due line text → FaultyFields (ranges_of due) n text fault → ⊥
wrong_text due n line text fault x kind whole e apart f =
    let texts = append_cancel_left (mark_of due) (32 ∷ text) (32 ∷ figures_text (figures_of x))
    (sym apart ∙ e ∙ ap (λ m. mark_of m ++ 32 ∷ figures_text (figures_of x)) kind) in
    let same : text ≡ figures_text (figures_of x) = cc texts in
    let a = some_field (kind_of x) in
    let all = whole.all in
    no_fault (ranges_of (kind_of x)) (figures_of x) whole.good all (omega arith) n fault
    (subst (λ k. FaultyFields (ranges_of k) n (figures_text (figures_of x)) fault) (sym kind) (subst (λ t. FaultyFields (ranges_of due) n t fault) same f))

-- a line that a record writes is read as that record
pub read_back : (due : RecordKind) (n : ℕ) (line : List ℕ) (r : Result Record RecordFault) → RecordRead due n line r → ReadsBack due line r
read_back due n line (Ok r) (same, range, written) x kind whole e =
    let k = same ∙ sym kind in
    let texts = append_cancel_left (mark_of (kind_of r)) (32 ∷ figures_text (figures_of r)) (32 ∷ figures_text (figures_of x))
    (sym written ∙ e ∙ ap (λ m. mark_of m ++ 32 ∷ figures_text (figures_of x)) (sym k)) in
    let a = some_field (kind_of r) in
    let b = some_field (kind_of x) in
    let all = range.all in
    let all' = whole.all in
    let figures = text_same (figures_of r) (figures_of x) range.good.short whole.good.short (omega arith) (omega arith)
    (let h : figures_text (figures_of r) ≡ figures_text (figures_of x) = cc texts in h) in
    ap Ok (sym (rebuilt-same r) ∙ (λ i. rebuilt (k i) (figures i)) ∙ rebuilt-same x)
read_back due n line (Err (Word f)) (text, apart, fault) x kind whole e = absurd (wrong_text due n line text (Word f) x kind whole e apart fault)
read_back due n line (Err (LawBroken p)) fault x kind whole e = absurd fault
read_back due n line (Err (NoMark m)) (never, here) x kind whole e =
    absurd (never (figures_text (figures_of x)) (e ∙ ap (λ m. mark_of m ++ 32 ∷ figures_text (figures_of x)) kind))
read_back due n line (Err (FieldCount p)) (text, apart, fault) x kind whole e = absurd (wrong_text due n line text (FieldCount p) x kind whole e apart fault)
read_back due n line (Err (LongLine m)) fault x kind whole e = absurd fault
