mod TargetLists
