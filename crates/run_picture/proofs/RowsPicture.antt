-- Small examples of what is drawn, by computation: some that hold, and some that do not.
use Rattle.std.proofs.Common.{◌≡◌, [], ◌∷◌, codes, refl, Some, None, arith}
use Rattle.topology.specs.Network.{Network}
use Rattle.svg_drawing.specs.declared.colours.Colour.TheVariants.{Pale, Ink}
use Rattle.run_picture.specs.declared.layout.legend.Sign.TheVariants.{Bar}
use Rattle.run_picture.specs.declared.layout.page.Page.{Page}
use Rattle.svg_drawing.specs.Drawn.{rect_shown, path_shown, whole}
use Rattle.run_picture.specs.Legend.{sign_shown, later}
use Rattle.run_picture.specs.Page.{page_of, page_width}
use Rattle.run_picture.specs.Picture.{ShowsRun}
use Rattle.run_recording.specs.Recordings.{RecordingView}
use Rattle.run_picture.specs.Tree.{lane_of, corner_steps, bow_width, edge_shown}

abbrev two : Network
two = record { nodes = 2; root = 0; capacity = 1; lease = 0; edges = (0, 1) ∷ [] }

-- ---- the page

-- a margin of 16, a tree of one step of 22, and 104 for names
left_of_two : (page_of two 9).left.0 ≡ 142
left_of_two = refl

-- nine columns leave it at its least width
width_of_two : page_width (page_of two 9) ≡ 800
width_of_two = refl

-- ---- the tree

third_lane : lane_of (0 ∷ 2 ∷ 1 ∷ 3 ∷ []) 1 ≡ Some 2
third_lane = refl

no_lane : lane_of (0 ∷ 2 ∷ 1 ∷ 3 ∷ []) 4 ≡ None
no_lane = refl

low_bow : bow_width 6 ≡ 8
low_bow = refl

high_bow : bow_width 300 ≡ 40
high_bow = refl

-- the edge of two nodes goes down from the root's lane, and then to the right
edge_of_two : edge_shown (page_of two 9) two (0 ∷ 1 ∷ []) (0, 1) ≡ path_shown (corner_steps 24 192 46 224) (whole Ink 3) ∷ []
edge_of_two = refl

-- also where its ends are given the other way round
edge_turned : edge_shown (page_of two 9) two (0 ∷ 1 ∷ []) (1, 0) ≡ path_shown (corner_steps 24 192 46 224) (whole Ink 3) ∷ []
edge_turned = refl

-- ---- the legend

first_bar : sign_shown 16 68 (Bar Pale 12) ≡ rect_shown 16 58 16 12 Pale
first_bar = refl

-- a meaning of 24 letters at 38, and then room
second_sign : later 38 (codes "distance and parent true") ≡ 198
second_sign = refl

-- ---- the picture

-- an empty drawing shows no run
nothing_shows_no_run : (page : Page) (net : Network) (r : RecordingView) → ¬ ShowsRun page net r []
nothing_shows_no_run page net r shows = grind (arith, shows.are)
