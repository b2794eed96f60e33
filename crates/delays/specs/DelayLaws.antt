-- Proofs of the laws of suppliers for a delay: its meaning is sound, and the shelves below it hold what is told.
use Rattle.std.specs.Prelude.{List, map, refl}
use Rattle.std.specs.List.{AllByRecursion}
use Rattle.std.proofs.Common.{arith}
use Rattle.supplier.specs.Meaning.{Meaning, Sound}
use Rattle.supplier.specs.Shelves.{Placed, Shelved}
use Rattle.layers.specs.Sheets.{later}
use Rattle.layers.proofs.Topped.{sound-topped, shelves-later}
use Rattle.delays.specs.declared.transit.Transit.{Transit}
use Rattle.delays.specs.Delays.{delayed, Late}
use Rattle.delays.specs.Carried.{refused-carried}

pub delayed_sound : (own : Transit) (m : Meaning) → Late m own → Sound m → Sound (delayed own m)
delayed_sound own m late below =
    let t = below.service in
    sound-topped _ _ m.sheet (record {
      near = late.near;
      high = t.high;
      grows = t.grows;
      until = t.until;
      long = t.long;
      before = t.before;
      refusals = λ q. refused-carried own.delay m.service q (m.service.refusal q) (t.refusals q);
    })

pub delayed_shelved : (own : Transit) (m : Meaning) (ps : List Placed) → AllByRecursion (Shelved m) ps →
    AllByRecursion (Shelved (delayed own m)) (map later ps)
delayed_shelved own m ps all = shelves-later m (delayed own m) _ refl (λ k h. omega arith) refl ps all
