use Rattle.std.proofs.Common.{◌≡◌, codes, sym, ◌∙◌, arith, rules}
use Rattle.std.proofs.lemmas.Slice.Eq.{text_from_reads}
use Rattle.texts.proofs.Named.{takes_map, takes_level, takes_window, takes_set, takes_tower, takes_coarse, command_right, command_wrong}
use Rattle.texts.proofs.read.command_named.Goals as goal

pub returns-in_err-k-in-map : goal.returns-in_err-k-in-map
returns-in_err-k-in-map c =
    let same : c.args.name.now ≡ codes "map" = text_from_reads _ _ (omega arith) (search rules) in
    c.from_residual.ensures ∙ sym (command_wrong takes_map _ same _ c.in_err-k-in-map.ensures)

pub returns-in_ok-k-in-map : goal.returns-in_ok-k-in-map
returns-in_ok-k-in-map c =
    let same : c.args.name.now ≡ codes "map" = text_from_reads _ _ (omega arith) (search rules) in
    sym (command_right takes_map _ same _ _ c.in_ok-k-in-map.ensures)

pub returns-in_err-level-in-level : goal.returns-in_err-level-in-level
returns-in_err-level-in-level c =
    let same : c.args.name.now ≡ codes "level" = text_from_reads _ _ (omega arith) (search rules) in
    c.from_residual-in_err-level-in-level.ensures ∙ sym (command_wrong takes_level _ same _ c.in_err-level-in-level.ensures)

pub returns-in_ok-level-in-level : goal.returns-in_ok-level-in-level
returns-in_ok-level-in-level c =
    let same : c.args.name.now ≡ codes "level" = text_from_reads _ _ (omega arith) (search rules) in
    sym (command_right takes_level _ same _ _ c.in_ok-level-in-level.ensures)

pub returns-in_err-x-in-window : goal.returns-in_err-x-in-window
returns-in_err-x-in-window c =
    let same : c.args.name.now ≡ codes "window" = text_from_reads _ _ (omega arith) (search rules) in
    c.from_residual-in_err-x-in-window.ensures ∙ sym (command_wrong takes_window _ same _ c.in_err-x-in-window.ensures)

pub returns-in_ok-x-in-window : goal.returns-in_ok-x-in-window
returns-in_ok-x-in-window c =
    let same : c.args.name.now ≡ codes "window" = text_from_reads _ _ (omega arith) (search rules) in
    sym (command_right takes_window _ same _ _ c.in_ok-x-in-window.ensures)

pub returns-in_err-x-in-set : goal.returns-in_err-x-in-set
returns-in_err-x-in-set c =
    let same : c.args.name.now ≡ codes "set" = text_from_reads _ _ (omega arith) (search rules) in
    c.from_residual-in_err-x-in-set.ensures ∙ sym (command_wrong takes_set _ same _ c.in_err-x-in-set.ensures)

pub returns-in_ok-x-in-set : goal.returns-in_ok-x-in-set
returns-in_ok-x-in-set c =
    let same : c.args.name.now ≡ codes "set" = text_from_reads _ _ (omega arith) (search rules) in
    sym (command_right takes_set _ same _ _ c.in_ok-x-in-set.ensures)

pub returns-in_err-read_numbers-in-tower : goal.returns-in_err-read_numbers-in-tower
returns-in_err-read_numbers-in-tower c =
    let same : c.args.name.now ≡ codes "tower" = text_from_reads _ _ (omega arith) (search rules) in
    c.from_residual-in_err-read_numbers-in-tower.ensures ∙ sym (command_wrong takes_tower _ same _ c.in_err-read_numbers-in-tower.ensures)

pub returns-in_ok-read_numbers-in-tower : goal.returns-in_ok-read_numbers-in-tower
returns-in_ok-read_numbers-in-tower c =
    let same : c.args.name.now ≡ codes "tower" = text_from_reads _ _ (omega arith) (search rules) in
    sym (command_right takes_tower _ same _ _ c.in_ok-read_numbers-in-tower.ensures)

pub returns-in_err-level-in-coarse : goal.returns-in_err-level-in-coarse
returns-in_err-level-in-coarse c =
    let same : c.args.name.now ≡ codes "coarse" = text_from_reads _ _ (omega arith) (search rules) in
    c.from_residual-in_err-level-in-coarse.ensures ∙ sym (command_wrong takes_coarse _ same _ c.in_err-level-in-coarse.ensures)

pub returns-in_ok-level-in-coarse : goal.returns-in_ok-level-in-coarse
returns-in_ok-level-in-coarse c =
    let same : c.args.name.now ≡ codes "coarse" = text_from_reads _ _ (omega arith) (search rules) in
    sym (command_right takes_coarse _ same _ _ c.in_ok-level-in-coarse.ensures)
