-- Panels: what they stand for, and their images.
use Rattle.std.specs.Prelude.{ℕ, Bool, cond, List, ◌++◌, map, ◌≢◌, codes}
use Rattle.cargo.specs.declared.panel.Panel.{Panel}
use Rattle.cargo.specs.Inputs.{inputs_in, panel_image}

-- the inputs that a panel stands for, input 0 first
abbrev pub inputs_of : Panel → List Bool
inputs_of p = inputs_in p.count p.inputs

-- the image of a panel
abbrev pub image_of : Panel → List ℕ
image_of p = panel_image (inputs_of p)

-- no panel has these octets for its image
abbrev pub ImagesNone : List ℕ → Type 0
ImagesNone xs = (p : Panel) → image_of p ≢ xs

-- an input as a digit of text: `1` where it is on, `0` where it is off
abbrev pub digit : Bool → ℕ
digit on = cond on 49 48

-- a panel with these inputs as text: the word, and a digit for each input, input 0 first
abbrev pub panel_text : List Bool → List ℕ
panel_text inputs = codes "panel " ++ map digit inputs

-- the text of a panel
abbrev pub text_of : Panel → List ℕ
text_of p = panel_text (inputs_of p)
