-- Which applications a scenario holds, in lines that stand among the sentences of the log.
use Rattle.std.specs.Prelude.{ℕ, ◌==◌, Bool, if◌then◌else◌, List, [], ◌++◌, codes}
use Rattle.std.specs.List.{list_any}
use Rattle.scenario.specs.declared.frame.App.{App}
use Rattle.scenario.specs.declared.frame.App.TheVariants as apps
use Rattle.input_words.specs.declared.inputs.FrameTime.{FrameTime}
use Rattle.input_words.specs.Inputs.{input_line}

abbrev pub app_name : App → List ℕ
app_name apps.Hs = codes "HS"
app_name apps.Cs = codes "CS"
app_name apps.Sc = codes "SC"
app_name apps.Mm = codes "MM"
app_name apps.Md = codes "MD"

abbrev pub app_place : App → ℕ
app_place apps.Hs = 0
app_place apps.Cs = 1
app_place apps.Sc = 2
app_place apps.Mm = 3
app_place apps.Md = 4

-- whether an application is among those that are held
unfoldable pub is_held : List App → App → Bool
is_held held app = list_any (λ a. app_place a == app_place app) held

-- the line of an application that is held, and wasn't in the frame before, or the other way round
abbrev pub hold_told : FrameTime → App → Bool → Bool → List ℕ
hold_told t app before now =
    if now then (if before then [] else input_line t (app_name app ++ codes " is held: from here on it isn't woken"))
    else (if before then input_line t (app_name app ++ codes " is woken again") else [])

abbrev pub app_told : FrameTime → List App → List App → App → List ℕ
app_told t before now app = hold_told t app (is_held before app) (is_held now app)

-- the lines of a frame that holds these, behind one that held those before
unfoldable pub holds_told : FrameTime → List App → List App → List ℕ
holds_told t before now =
    app_told t before now apps.Hs ++ app_told t before now apps.Cs ++ app_told t before now apps.Sc ++ app_told t before now apps.Mm
    ++ app_told t before now apps.Md
