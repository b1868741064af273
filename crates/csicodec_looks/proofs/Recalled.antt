-- A control sequence that came before, and comes again.
use Rattle.std.proofs.{Common.◌≡◌, Common.◌≤◌, Common.ℕ, Common.Bool, Common.true, Common.List, Common.◌++◌, Common.length, Common.take, Common.rules}
use Rattle.std.proofs.{Math.Seq.take-append_seam, lemmas.Bool.and_parts}
use Rattle.csicodec_names.specs.{declared.color.ColorSpec.ColorSpec, declared.color.Intensity.Intensity, declared.color.Underline.Underline}
use Rattle.csicodec_looks.specs.{declared.look.Look.Look, Turns.IsTurn, Turns.Fits, Turns.IsTold, declared.turns.InFront.InFront, declared.turns.Turn.Turn}
use mathlib.Core.Bool.{beq}
use Rattle.csicodec_names.specs.contracts.color.ColorSpecPartialEq.TheImpl as color_eq
use Rattle.csicodec_names.specs.contracts.color.IntensityPartialEq.TheImpl as intensity_eq
use Rattle.csicodec_names.specs.contracts.color.UnderlinePartialEq.TheImpl as underline_eq
use Rattle.csicodec_looks.specs.contracts.look.LookPartialEq.TheImpl as look_eq

-- weights, lines and colours that are equal are one
weight : (a b : Intensity) → (intensity_eq.ghosts).eq a b ≡ true → a ≡ b
weight a b h = search rules

line : (a b : Underline) → (underline_eq.ghosts).eq a b ≡ true → a ≡ b
line a b h = search rules

color : (a b : ColorSpec) → (color_eq.ghosts).eq a b ≡ true → a ≡ b
color a b h = search rules

flag : (a b : Bool) → beq a b ≡ true → a ≡ b
flag a b h = search rules

-- and so are looks
pub same_look : (a b : Look) → (look_eq.ghosts).eq a b ≡ true → a ≡ b
same_look a b h =
    let (i, h1) = and_parts _ _ h in
    let (t, h2) = and_parts _ _ h1 in
    let (u, h3) = and_parts _ _ h2 in
    let (l, h4) = and_parts _ _ h3 in
    let (o, h5) = and_parts _ _ h4 in
    let (s, h6) = and_parts _ _ h5 in
    let (v, h7) = and_parts _ _ h6 in
    let (f, g) = and_parts _ _ h7 in
    λ x. record {
      intensity = weight a.intensity b.intensity i x;
      italic = flag a.italic b.italic t x;
      underline = line a.underline b.underline u x;
      line = color a.line b.line l x;
      overline = flag a.overline b.overline o x;
      strike = flag a.strike b.strike s x;
      inverse = flag a.inverse b.inverse v x;
      foreground = color a.foreground b.foreground f x;
      background = color a.background b.background g x;
    }

-- of a turn that fits what is written is that of the sequence in front
pub told : (Turned : List ℕ → Look → Look → List ℕ → Type 0) (t : Turn) (look : Look) (f : InFront) (old new : List ℕ)
    → IsTurn Turned t → Fits t look f → new ≡ old ++ take t.tags_len t.tags → IsTold Turned look f t.len t.new old new
told Turned t look f old new (short, few, is) (least, most, within, front, same) longer =
    (least, most, within, take t.tags_len t.tags, rw (front, ← same) is, longer)

-- of what is kept the fronts are what was copied there
pub kept : (Turned : List ℕ → Look → Look → List ℕ → Type 0) (bytes tags copied told behind after : List ℕ) (old new : Look)
    → copied ≡ bytes → told ≡ tags → length bytes ≤ 32 → length tags ≤ 128 → Turned bytes old new tags
    → (length bytes ≤ 32) × (length tags ≤ 128)
    × Turned (take (length bytes) (copied ++ behind)) old new (take (length tags) (told ++ after))
kept Turned bytes tags copied told behind after old new same one short few is =
    (short, few, rw (same, one, take-append_seam bytes behind, take-append_seam tags after) is)
