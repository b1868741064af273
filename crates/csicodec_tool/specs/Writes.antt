-- What `filter`, `compact`, `strip`, `clean`, `html` and `screen` write of an input.
use Rattle.std.specs.Prelude.{ℕ, ◌≡◌, ◌⊎◌, Bool, true, false, ◌||◌, if◌then◌else◌, List, [], ◌++◌, Option, None, Some, Result, Ok, OnOk, OnErr, IsErr, option_map}
use Rattle.std.specs.Borrow.{Bor}
use Rattle.csicodec_spans.specs.declared.table.Mode.TheVariants.{Text as Plain}
use Rattle.csicodec_streams.specs.{Decoding.NormalisesTo, Faithful.IsFaithful}
use Rattle.csicodec_transform.specs.declared.error.RunError.{RunError}
use Rattle.csicodec_filter.specs.Filter.{Filters, IsFrontOf}
use Rattle.csicodec_compact.specs.Runs.{CompactsAll}
use Rattle.csicodec_clean.specs.{Cleaned.Strips, Cleaned.longest, Styled.StylesIn, Page.PageWith, declared.styles.Passing.Passing}
use Rattle.csicodec_lines.specs.Lines.{ByLines}
use Rattle.csicodec_overwrite.specs.Reading.{Paints}
use Rattle.csicodec_looks.specs.{declared.markup.Markup.Markup, Sheet.sheet}
use Rattle.csicodec_html.specs.{declared.sheet.TheConstants.BEHIND, declared.sheet.TheConstants.BODY, declared.sheet.TheConstants.HEAD}
use Rattle.csicodec_html.specs.{declared.sheet.TheConstants.STYLE, Sheet.IsTitle}
use Rattle.csicodec_command.specs.{Recorded.recorded, Runs.StepsOf, Runs.Next, Runs.Stream, Runs.Recording, Runs.End}
use Rattle.csicodec_inspect.specs.Sent.{FrontsOf, IsAppended, IsWrittenBy}
use Rattle.csicodec_tool.specs.{Log.IsLogged, Log.IsLoggedFront, Log.Logs, Log.LogsSome, declared.rewrite.Job.Job, declared.rewrite.Page.Page}
use Rattle.csicodec_tool.specs.{declared.rewrite.Work.Work, declared.front.TheConstants.GIVEN, declared.front.TheConstants.TARGET}
use Rattle.csicodec_tool.specs.{declared.front.Heading.Heading, Numbered.NumberedAs, Shown.Shows, Shown.ShowsFront, Spelled.SpelledAs}

-- the page of what is painted of the bytes
abbrev pub PaintedPage : Markup → List ℕ → List ℕ → Type 0
PaintedPage markup bytes page = (painted : List ℕ) × Paints bytes painted × PageWith markup painted page

-- plain text, and styled text, of a stream or line by line
abbrev pub Stripped : Bool → List ℕ → List ℕ → Type 0
Stripped false bytes text = Strips longest bytes text
Stripped true bytes text = ByLines (Strips longest) bytes text

abbrev pub Cleaned : Passing → Bool → List ℕ → List ℕ → Type 0
Cleaned passing false bytes text = StylesIn passing bytes text
Cleaned passing true bytes text = ByLines (StylesIn passing) bytes text

-- a page of all text, or of what stands in each line when it ends
abbrev pub Pages : Markup → Bool → List ℕ → List ℕ → Type 0
Pages markup false bytes text = PageWith markup bytes text
Pages markup true bytes text = PaintedPage markup bytes text

abbrev pub PageText : Page → List ℕ → List ℕ → Type 0
PageText page bytes text = SpelledAs page.visible (NumberedAs page.ids (Pages page.markup page.overwrite)) bytes text

-- All bytes of an input become this text. What is only checked has none.
abbrev pub Writes : Work → List ℕ → List ℕ → Type 0
Writes (Work.Filter true) bytes text = Filters IsFaithful longest Plain bytes text
Writes (Work.Filter false) bytes text = Filters NormalisesTo longest Plain bytes text
Writes (Work.Compact semicolons) bytes text = CompactsAll longest Plain bytes text
Writes (Work.Strip lines visible) bytes text = SpelledAs visible (Stripped lines) bytes text
Writes (Work.Overwrite styles visible) bytes text = SpelledAs visible (IsLogged styles) bytes text
Writes (Work.Log styles visible) bytes text = SpelledAs visible (Logs styles) bytes text
Writes (Work.Check visible) bytes text = text ≡ []
Writes (Work.Clean passing lines visible) bytes text = SpelledAs visible (Cleaned passing lines) bytes text
Writes (Work.Html heading page fragment begun) bytes text = PageText page bytes text
Writes (Work.Screen display) bytes text = Shows display bytes text

-- Of an input that failed this went out: a front of the text of a front of its bytes, and of a filter's, of all of them. Of a screen nothing is
-- written ahead of the end.
abbrev pub Sends : Work → List ℕ → List ℕ → Type 0
Sends (Work.Filter true) bytes sent = IsFrontOf IsFaithful longest Plain bytes sent
Sends (Work.Filter false) bytes sent = IsFrontOf NormalisesTo longest Plain bytes sent
Sends (Work.Overwrite styles visible) bytes sent = FrontsOf (SpelledAs visible (IsLoggedFront styles)) bytes sent
Sends (Work.Log styles visible) bytes sent = FrontsOf (SpelledAs visible (LogsSome styles)) bytes sent
Sends (Work.Screen display) bytes sent = ShowsFront display bytes sent
Sends w bytes sent = FrontsOf (Writes w) bytes sent

-- an input was written as the work has it
abbrev pub Wrote : {A E : Type 0} → Work → Result A E → Option (List ℕ) → Option (List ℕ)
    → Option (List ℕ) → Type 0
Wrote w result known old new = IsWrittenBy (Writes w) (Sends w) result known old new

-- a page's own style sheet, from the end of its title on, and that or the one that is given in its place
abbrev pub own_style : Page → List ℕ
own_style page = STYLE.now ++ (sheet page.markup ++ (if page.ids then TARGET.now else []))

abbrev pub style_of : Page → Option (Bor (List ℕ)) → List ℕ
style_of page None = own_style page
style_of page (Some given) = GIVEN.now ++ given.now

-- what stands ahead of a page with this heading: its title and its style sheet, between the texts of every page
abbrev pub IsPageFront : Page → Heading → List ℕ → Type 0
IsPageFront page heading text = (title : List ℕ) × IsTitle heading.name.now title
    × (text ≡ HEAD.now ++ (title ++ (style_of page heading.style ++ BODY.now)))

-- what stands ahead of an input: of the first one of a page that is no fragment its front, and else nothing
abbrev pub Heads : Work → List ℕ → Type 0
Heads (Work.Html heading page false false) text = IsPageFront page heading text
Heads w text = text ≡ []

-- what stands behind the last input: behind a page that has begun its end, and else nothing
abbrev pub Tails : Work → List ℕ → Type 0
Tails (Work.Html heading page fragment true) text = text ≡ BEHIND.now
Tails w text = text ≡ []

-- the work behind what stands ahead
abbrev pub begun_of : Work → Work
begun_of (Work.Html heading page false begun) = Work.Html heading page false true
begun_of w = w

-- the text begins with what was sent
abbrev pub BeginsWith : (List ℕ → Type 0) → List ℕ → Type 0
BeginsWith Is sent = (unsent : List ℕ) × Is (sent ++ unsent)

-- what stands ahead was written, or went out as far as it did until something failed
abbrev pub IsHeaded : {A E : Type 0} → Work → Result A E → Work → Option (List ℕ)
    → Option (List ℕ) → Type 0
IsHeaded w result new old out = (new ≡ begun_of w) × OnOk result (IsAppended (Heads w) old out)
    × OnErr result (IsAppended (λ sent. (sent ≡ []) ⊎ BeginsWith (Heads w) sent) old out)

-- An input is written: what stands ahead of it, and unless that failed the input itself, by the work behind that.
pub record WroteBehind {A E : Type 0} (w : Work) (result : Result A E) (new : Work)
    (known old out : Option (List ℕ)) : Type 0 where
  pub headed : Result (Unit {0}) RunError
  pub ahead : Option (List ℕ)
  pub heads : IsHeaded w headed new old ahead
  pub wrote : OnOk headed (Wrote new result known ahead out)
  pub failed : OnErr headed (IsErr result × (out ≡ ahead))

-- a page and a screen have no recordings, and where it is only checked what is plain text, none is written
abbrev pub makes_none : Work → Bool
makes_none (Work.Check visible) = true
makes_none (Work.Html heading page fragment begun) = true
makes_none (Work.Screen display) = true
makes_none w = false

-- whether of a recording comes what becomes of its data, and no recording
abbrev pub writes_data : Job → Bool
writes_data job = job.text || makes_none job.work

-- How the steps of a job go: nothing is done ahead of an input, a stream is written behind what stands ahead of it, and behind the last
-- input stands what ends a page. A recording of which no recording is made is written as the stream of its data. Where one of its lines is
-- refused, 256 stands there, which is no byte: so nobody reads on, or to its end. Of what else is written of a recording nothing is said.
abbrev pub JobSteps : StepsOf Job
JobSteps (Next name) start result end = (result ≡ Ok tt) × (end ≡ start)
JobSteps (Stream known) start result end = (end.0.text ≡ start.0.text)
    × WroteBehind start.0.work result end.0.work known start.1 end.1
JobSteps (Recording known) start result end = (end.0.text ≡ start.0.text) × (end.0.work ≡ begun_of start.0.work)
    × (writes_data start.0 ≡ true → WroteBehind start.0.work result end.0.work (option_map recorded known) start.1 end.1)
JobSteps End start result end = (end.0 ≡ start.0) × OnOk result (IsAppended (Tails start.0.work) start.1 end.1)
    × OnErr result (IsAppended (BeginsWith (Tails start.0.work)) start.1 end.1)
