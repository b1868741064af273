use Rattle.std.proofs.Common.{arith}
use Rattle.csicodec_clean.proofs.Rendered.{attribute_few, placed_first}
use Rattle.csicodec_clean.proofs.rendition.StyleTexts.set_front.Goals as goal

pub set-requires-clause-place : goal.set-requires-clause-place
set-requires-clause-place c =
    let (styles, placed) = c.requires.placed in
    let p = placed_first styles _ _ placed c.requires.some in
    omega (arith, c.from.ensures, p.place, attribute_few p.style p.has_place.0)

pub set-requires-clause-len : goal.set-requires-clause-len
set-requires-clause-len c =
    let (styles, placed) = c.requires.placed in
    let p = placed_first styles _ _ placed c.requires.some in
    (omega (arith, c.from-len.ensures, p.few), omega (arith, c.from-len.ensures, p.within))

pub returns-clause-within : goal.returns-clause-within
returns-clause-within c =
    let (styles, placed) = c.requires.placed in
    let p = placed_first styles _ _ placed c.requires.some in
    omega (arith, c.from-len.ensures, p.within)
