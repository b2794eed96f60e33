-- The marks of the kinds of record, and the ranges of their fields.
use Rattle.std.specs.Prelude.{◌≡◌, ℕ, ◌-◌, ◌^◌, List, [], ◌∷◌, ◌++◌, codes}
use Rattle.figures.specs.declared.ranges.Range.{Range}
use Rattle.envelope.specs.Buckets.{bucket_ranges}
use Rattle.envelope.specs.Roots.{root_ranges}
use Rattle.vendors.specs.Calendars.{calendar_ranges}
use Rattle.vendors.specs.Pipelines.{pipeline_ranges}
use Rattle.delays.specs.DelayMaking.{delay_ranges}
use Rattle.assemblies.specs.AssemblyMaking.{assembly_ranges}
use Rattle.stages.specs.StageMaking.{stage_ranges}
use Rattle.records.specs.declared.kind.RecordKind.{RecordKind}
use Rattle.records.specs.declared.kind.RecordKind.TheVariants.{Calendar, Delay, Pipeline, RootStage, Assembly, BucketStage, Day}
use Rattle.records.specs.Numerals.{most_digits}

-- the two bytes at the start of its line
abbrev pub mark_of : RecordKind → List ℕ
mark_of Calendar = codes "VC"
mark_of Delay = codes "DL"
mark_of Pipeline = codes "VP"
mark_of RootStage = codes "SR"
mark_of Assembly = codes "AS"
mark_of BucketStage = codes "SB"
mark_of Day = codes "DY"

-- the ranges of its fields: those of the making that the record is for; of an order, every number
abbrev pub ranges_of : RecordKind → List Range
ranges_of Calendar = calendar_ranges
ranges_of Delay = delay_ranges
ranges_of Pipeline = pipeline_ranges
ranges_of RootStage = stage_ranges ++ root_ranges
ranges_of Assembly = assembly_ranges
ranges_of BucketStage = stage_ranges ++ bucket_ranges
ranges_of Day = record { low = 0; high = 10 ^ most_digits - 1 } ∷ []

-- the line is the mark of this kind, a space, and this text
abbrev pub TakenApart : RecordKind → List ℕ → List ℕ → Type 0
TakenApart kind line text = line ≡ mark_of kind ++ 32 ∷ text

-- the line does not begin with the mark of this kind and a space
abbrev pub LacksMark : RecordKind → List ℕ → Type 0
LacksMark kind line = (text : List ℕ) → TakenApart kind line text → ⊥
