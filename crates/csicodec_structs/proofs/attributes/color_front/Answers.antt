use Rattle.std.proofs.Common.{◌<◌, rules, refl}
use Rattle.csicodec_structs.proofs.Styled.{palette, true_color}
use Rattle.csicodec_structs.proofs.attributes.color_front.Goals as goal

pub returns-in-5 : goal.returns-in-5
returns-in-5 c =
    let mark = c.in_ok-mark in
    let way = c.in_ok-way in
    let first = c.in_ok-first in
    let low : c.in_ok-first.first < 256 = search rules in
    palette c.args.kind mark.mark c.args.text.now way.parts.now first.behind.now way.way first.first c.plain.result mark.ensures c.in-5.is low way.ensures first.ensures (rw c.plain.ensures refl)

pub returns-in_ok-blue-in-2 : goal.returns-in_ok-blue-in-2
returns-in_ok-blue-in-2 c =
    let mark = c.in_ok-mark in
    let way = c.in_ok-way in
    let first = c.in_ok-first in
    let green = c.in_ok-green-in-2 in
    let blue = c.in_ok-blue-in-2 in
    let r : c.in_ok-first.first < 256 = search rules in
    let g : c.in_ok-green-in-2.green < 256 = search rules in
    let b : c.in_ok-blue-in-2.blue < 256 = search rules in
    true_color c.args.kind mark.mark c.args.text.now way.parts.now first.behind.now green.behind.now blue.behind.now way.way first.first green.green blue.blue _
    mark.ensures c.in-2.is r g b way.ensures first.ensures green.ensures blue.ensures (rw c.plain-in-2.ensures refl)
