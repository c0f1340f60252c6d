-- Names, and what each stands for.
use Rattle.std.specs.Prelude.{ℕ, List, Option, Some, None, codes, if◌then◌else◌}
use Rattle.std.specs.Option.{option_map}
use Rattle.std.specs.Ordering.{nat_cmp}
use Rattle.std.specs.Cmp.Lexicographic.{slice_cmp}
use Rattle.std.specs.BTreeMap.{get_by}
use Rattle.std.specs.Str.{bytes_eq}
use Rattle.geom_base.specs.declared.rect.Rect.{Rect}
use Rattle.pix_format.specs.declared.rgb.Rgb.{Rgb}
use Rattle.script_names.specs.declared.entry.Bitmap.{Bitmap}
use Rattle.script_names.specs.declared.entry.Entry.{Entry}
use Rattle.script_names.specs.declared.entry.Entry.TheVariants as entries
use Rattle.script_names.specs.declared.names.Names.{Names}

-- what a name stands for; bitmaps and brushes have numbers, and a region is its list of rectangles
pub data Name : Type 0 where
  screen : Name
  no_clip : Name
  table : List Rgb → Name
  brush : ℕ → Name
  bitmap : Bitmap → Name
  region : List Rect → Name

abbrev pub name_of_entry : Entry → Name
name_of_entry entries.Screen = screen
name_of_entry entries.NoClip = no_clip
name_of_entry (entries.Table colours) = table colours
name_of_entry (entries.Brush number) = brush number
name_of_entry (entries.Bitmap b) = bitmap b
name_of_entry (entries.Region rects) = region rects

-- what each word stands for, where it is a name in use
abbrev pub NameMap : Type 0
NameMap = List ℕ → Option Name

abbrev pub names_of : Names → NameMap
names_of names word = option_map name_of_entry (get_by (λ k. slice_cmp nat_cmp word k.now) names.map)

-- one more name
abbrev pub with_name : List ℕ → Name → NameMap → NameMap
with_name word what names w = if bytes_eq word w then Some what else names w

-- a name that is free again
abbrev pub without_name : List ℕ → NameMap → NameMap
without_name word names w = if bytes_eq word w then None else names w

-- the names that are in use from the start
abbrev pub first_names : NameMap
first_names = with_name (codes "none") no_clip (with_name (codes "screen") screen (λ w. None))
