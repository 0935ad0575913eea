-- The live report in Prometheus' text format, version 0.0.4 (docs/FORMATS.md).
use Rattle.std.specs.Prelude.{ℕ, List, [], ◌∷◌, ◌++◌, codes, decimal, flat_map}
use Rattle.status.specs.Family.{all_families, help_of, kind_of, name_of, value_of}
use Rattle.status.specs.Pieces.{escaped}
use Rattle.status.specs.declared.family.Family.{Family}
use Rattle.status.specs.declared.live.LiveReport.{LiveReport}
use Rattle.status.specs.declared.live.LiveStatus.{LiveStatus}

-- the two lines before the samples of a family: what they are, and of which type
abbrev pub head_text : (name help kind : List ℕ) → List ℕ
head_text name help kind =
    codes "# HELP innfeed_" ++ (name ++ (32 ∷ help ++ (10
    ∷ codes "# TYPE innfeed_" ++ (name ++ (32 ∷ kind ++ (10 ∷ []))))))

-- a sample of a peer: name, label, value
abbrev pub sample_text : (name peer : List ℕ) → (value : ℕ) → List ℕ
sample_text name peer value =
    codes "innfeed_" ++ (name ++ (codes "{peer=\"" ++ (escaped peer
    ++ (codes "\"} " ++ (decimal value ++ (10 ∷ []))))))

-- the sample that a family has of a peer
abbrev pub peer_text : Family → LiveStatus → List ℕ
peer_text family peer = sample_text (name_of family) peer.name.now (value_of family peer)

-- a family: its two lines, and a sample for each peer
abbrev pub family_text : List LiveStatus → Family → List ℕ
family_text peers family =
    head_text (name_of family) (help_of family) (kind_of family) ++ flat_map (peer_text family) peers

-- all families of peers
abbrev pub families_text : List LiveStatus → List ℕ
families_text peers = flat_map (family_text peers) all_families

-- a figure of the whole run: its two lines, and its sample
abbrev pub figure_text : (name help : List ℕ) → (value : ℕ) → List ℕ → List ℕ
figure_text name help value rest =
    codes "# HELP innfeed_" ++ (name ++ (32 ∷ help ++ (10
    ∷ codes "# TYPE innfeed_" ++ (name ++ (codes " gauge" ++ (10
    ∷ codes "innfeed_" ++ (name ++ (32 ∷ decimal value ++ (10 ∷ rest)))))))))

-- what is said of the whole run
abbrev pub run_text : LiveReport → List ℕ
run_text report =
    figure_text (codes "start_time_seconds") (codes "When the run began, in seconds since 1970.") report.started (
    figure_text (codes "written_time_seconds") (codes "When this was written, in seconds since 1970.")
    report.written (
    figure_text (codes "acknowledged_line") (codes "Up to which number lines are acknowledged.")
    report.acknowledged []))

-- the whole text
abbrev pub metrics_text : LiveReport → List ℕ
metrics_text report = run_text report ++ families_text report.peers.now
