mod StageLemmas
