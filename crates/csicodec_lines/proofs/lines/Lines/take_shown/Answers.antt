use Rattle.std.proofs.Common.{◌≡◌, ◌≤◌, ◌++◌, ◌∙◌, ℕ, [], encode_utf8_all, length, take, refl, rules, sym, ap, append-nil}
use Rattle.std.proofs.Math.Seq.{take-append_seam, take-length}
use Rattle.csicodec_clean.specs.Shown.{written}
use Rattle.csicodec_lines.specs.Stream.{Passes}
use Rattle.csicodec_lines.proofs.{Copied.goes_shown, Copied.is_blank, Copied.unchanged, Taken.goes_same, Common.adds_none, Common.run_as}
use Rattle.csicodec_lines.proofs.lines.Lines.take_shown.Goals as goal

pub returns-then-front-lt-LANES : goal.returns-then-front-lt-LANES
returns-then-front-lt-LANES g c = adds_none (Passes g.R.Anew.begins g.R.Rule.gives g.R.Rule.closes) c.args.self.now c.args.bytes.now c.args.out.now.items

pub returns-then-len-before : goal.returns-then-len-before
returns-then-len-before g c =
    let (close, closes, out) = c.in_ok-finish.ensures in
    let before = c.args.out.now.items in
    let all : c.len-before.result ≡ length before = search rules in
    let same = c.truncate.ensures.items ∙ ap (λ (n : ℕ). take n c.finish.new.out.items) all ∙ ap (take (length before)) out ∙ take-append_seam before (run_as g.R.Rule.gives.writing c.args.self.now.line.held ++ close) in
    ([], refl, ([], goes_same g.R.Anew.begins g.R.Rule.gives g.R.Rule.closes c.args.self.now _ [] (λ line more. refl) refl (c.begin.ensures ∙ sym c.requires), same ∙ sym (append-nil before)))

pub returns : goal.returns
returns g c =
    let (close, closes, out) = c.in_ok-finish.ensures in
    let old = c.args.self.now in
    let before = c.args.out.now.items in
    let after = c.finish.new.out.items in
    let front = c.split_shown.result.0.now in
    let shown = c.split_shown.ensures.shown in
    let text = written g.R.Rule.gives.writing shown.0 in
    let whole : take (length front) front ≡ encode_utf8_all shown.0 = take-length front ∙ shown.3 in
    let few : length after ≤ length before = search rules in
    let blank = is_blank g.R.Anew.begins g.R.Rule.gives g.R.Rule.closes g.met.R.Rule.newline old close before after c.requires c.if-self.false closes out few in
    let same = unchanged before (run_as g.R.Rule.gives.writing old.line.held ++ close) after out few in (
      front,
      c.split_shown.ensures.whole,
      (
        text,
        goes_shown g.R.Anew.begins g.R.Rule.gives g.R.Rule.closes g.met.R.Rule.newline old _ front shown blank
            (record { line = c.begin.ensures; returned = c.if-self.false; closes = blank.closes }) refl,
        c.in_ok-append_text.ensures shown.0 shown.2 (search rules) ∙ ap (λ t. t ++ text) same,
      ),
    )
