-- What the code does with one event.
use Rattle.std.specs.Prelude.{ℕ, ◌≡◌, ◌∷◌, [], false, List, map}
use Rattle.csicodec_tokens.specs.declared.param.CsiParam.{CsiParam}
use Rattle.csicodec_spans.specs.declared.table.Mode.{Mode}
use Rattle.csicodec_events.specs.{declared.event.Event.Event, declared.event.Events.Events}
use Rattle.csicodec_actions.specs.Actions.{Action}
use Rattle.csicodec_terminal.specs.Terminal.{Terminal}
use Rattle.csicodec_screen.specs.{Feeds.Reading, Feeds.by_escape, Feeds.by_string, Feeds.collected, Feeds.of_text, Feeds.of_wrong, Steps.Control, Steps.Csi}
use Rattle.csicodec_screen.specs.{Steps.carry, declared.screen.Screen.Screen}

-- where reading stands, by its parts
abbrev pub reading : Events → List ℕ → List ℕ → Reading
reading events string bytes = record { events = events; string = string; bytes = bytes }

-- the screen is as the event says
abbrev pub Takes : Event → List ℕ → List CsiParam → Mode → List ℕ → Screen → Screen → Type 0
Takes Event.Text bytes list m string s t = t ≡ carry (of_text bytes) s
Takes (Event.Control b) bytes list m string s t = t ≡ carry (Control b ∷ []) s
Takes (Event.Csi final) bytes list m string s t = (actions : List Action) × Terminal list false final actions × (t ≡ carry (map Csi actions) s)
Takes Event.Esc bytes list m string s t = t ≡ carry (by_escape bytes) s
Takes Event.Str bytes list m string s t = t ≡ carry (by_string m (collected string bytes)) s
Takes Event.Other bytes list m string s t = t ≡ carry (of_wrong bytes) s
