-- What the calls of a port over memory leave.
use Rattle.std.specs.Prelude.{◌≡◌, ℕ, ◌+◌, ◌-◌, ◌^◌, ◌==◌, ◌≤◌, min, Bool, List, [], if◌then◌else◌}
use Rattle.std.specs.List.{list_any}
use Rattle.geom_base.specs.declared.port_answer.PortAnswer.{PortAnswer}
use Rattle.geom_base.specs.declared.port_answer.PortAnswer.TheVariants.{Done, Fault}
use Rattle.geom_base.specs.declared.rect.Rect.{Rect}
use Rattle.geom_base.specs.Drawn.{pushed}
use Rattle.geom_base.specs.Points.{no_rect}
use Rattle.surf_obj.specs.Surface.{Surface}
use Rattle.copy_port.specs.State.{next_count}
use Rattle.mem_port.specs.Memory.{surface_in}
use Rattle.mem_port.specs.Rows.{row_of}
use Rattle.mem_port.specs.declared.mem_port.MemPort.{MemPort}

-- a new port: what it shows, and the numbers of its failing calls
pub record IsNew (first second : Surface) (numbers : List ℕ) (p : MemPort) : Type 0 where
  pub screen : surface_in p.screen ≡ first
  pub bitmap : surface_in p.bitmap ≡ second
  pub fails : p.fails ≡ numbers
  pub breaks : p.breaks ≡ []
  pub cuts : p.cuts ≡ 1
  pub calls : p.calls ≡ 0
  pub faults : p.faults ≡ 0
  pub written : p.written ≡ 0

-- the same port with other parts
pub record HasCuts (most : ℕ) (numbers : List ℕ) (old new : MemPort) : Type 0 where
  pub screen : new.screen ≡ old.screen
  pub bitmap : new.bitmap ≡ old.bitmap
  pub fails : new.fails ≡ old.fails
  pub breaks : new.breaks ≡ numbers
  pub cuts : new.cuts ≡ most
  pub calls : new.calls ≡ old.calls
  pub faults : new.faults ≡ old.faults
  pub written : new.written ≡ old.written

-- all but what is shown is as before
pub record SameCounts (old new : MemPort) : Type 0 where
  pub fails : new.fails ≡ old.fails
  pub breaks : new.breaks ≡ old.breaks
  pub cuts : new.cuts ≡ old.cuts
  pub calls : new.calls ≡ old.calls
  pub faults : new.faults ≡ old.faults
  pub written : new.written ≡ old.written

-- all but the count of faults is as before
pub record SameButFaults (old new : MemPort) : Type 0 where
  pub screen : new.screen ≡ old.screen
  pub bitmap : new.bitmap ≡ old.bitmap
  pub fails : new.fails ≡ old.fails
  pub breaks : new.breaks ≡ old.breaks
  pub cuts : new.cuts ≡ old.cuts
  pub calls : new.calls ≡ old.calls
  pub written : new.written ≡ old.written

-- the count of faults after one more
abbrev pub next_fault : ℕ → ℕ
next_fault n = min (n + 1) (2 ^ 64 - 1)

-- the next call is one of those that fail
abbrev pub fails_at : MemPort → Bool
fails_at p = list_any (λ n. n == next_count p.calls) p.fails

abbrev pub answer_of : Bool → PortAnswer
answer_of failed = if failed then Fault else Done

-- and, where it writes and doesn't fail at once, one of those that fail after a row
abbrev pub breaks_at : MemPort → Bool
breaks_at p = list_any (λ n. n == next_count p.calls) p.breaks

-- a call was counted, and where it failed that was too
pub record Counted (failed : Bool) (old new : MemPort) : Type 0 where
  pub screen : new.screen ≡ old.screen
  pub bitmap : new.bitmap ≡ old.bitmap
  pub fails : new.fails ≡ old.fails
  pub breaks : new.breaks ≡ old.breaks
  pub cuts : new.cuts ≡ old.cuts
  pub calls : new.calls ≡ next_count old.calls
  pub faults : new.faults ≡ (if failed then next_fault old.faults else old.faults)
  pub later : old.faults ≤ new.faults
  pub written : new.written ≡ old.written

-- a write was counted, and where it failed that was too
pub record CountedWrite (failed : Bool) (old new : MemPort) : Type 0 where
  pub fails : new.fails ≡ old.fails
  pub breaks : new.breaks ≡ old.breaks
  pub cuts : new.cuts ≡ old.cuts
  pub calls : new.calls ≡ next_count old.calls
  pub faults : new.faults ≡ (if failed then next_fault old.faults else old.faults)

-- what the next call writes of a rectangle: nothing, the first row, or all
abbrev pub part_of : Bool → Bool → Rect → Rect
part_of failed broken r = if failed then no_rect else if broken then row_of r else r

abbrev pub part_at : MemPort → Rect → Rect
part_at p r = part_of (fails_at p) (breaks_at p) r

-- and what is pushed then
abbrev pub pushed_of : Bool → Bool → Rect → List Rect → List Rect
pushed_of failed broken r rects = if failed then rects else pushed rects (part_of failed broken r)

abbrev pub pushed_at : MemPort → Rect → List Rect → List Rect
pushed_at p r rects = pushed_of (fails_at p) (breaks_at p) r rects
